pub mod Carried
pub mod Reached
pub mod Saved
pub mod Sends
pub mod Alone
