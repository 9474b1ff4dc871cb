pub mod Ranged
pub mod SentArgument
