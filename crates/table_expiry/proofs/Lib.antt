-- The laws that the layers above cite.
pub mod Aging
pub mod Steady
pub mod Rules
pub mod Moving
