-- The laws that the layers above cite.
pub mod Heard
pub mod Taken
