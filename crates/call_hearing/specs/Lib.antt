pub mod Proof
pub mod Keys
