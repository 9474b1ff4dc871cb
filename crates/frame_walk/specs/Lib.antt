pub mod List
pub mod Walk
