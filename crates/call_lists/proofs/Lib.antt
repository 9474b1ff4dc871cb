-- The laws that the layers above cite.
pub mod Lists
