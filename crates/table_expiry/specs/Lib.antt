pub mod Expiry
pub mod Kept
