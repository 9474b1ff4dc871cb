pub mod Basic
pub mod Ours
