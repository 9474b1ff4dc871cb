-- The laws that the layers above cite.
pub mod Back
pub mod Laws
pub mod Round
