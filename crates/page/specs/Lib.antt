pub mod Text
pub mod Status
