pub mod Bit
pub mod Basic
pub mod Used
pub mod Sak
