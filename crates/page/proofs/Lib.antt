-- The laws of the lines.
pub mod Laws
pub mod Said
pub mod Room
