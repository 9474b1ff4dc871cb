pub mod Show
pub mod Cases
