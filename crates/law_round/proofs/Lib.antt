pub mod Basic
pub mod Sets
pub mod Round
pub mod RoundTripArgument
