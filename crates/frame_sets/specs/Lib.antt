pub mod Kinds
pub mod Set
