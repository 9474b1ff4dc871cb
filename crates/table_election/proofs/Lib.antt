-- The laws that the layers above cite.
pub mod Order
pub mod Least
pub mod Beaten
