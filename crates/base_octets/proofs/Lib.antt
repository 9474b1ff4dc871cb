-- The laws that the layers above cite.
pub mod Fields
pub mod Laws
pub mod Stores
