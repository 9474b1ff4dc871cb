pub mod Number
pub mod Octets
pub mod Run
