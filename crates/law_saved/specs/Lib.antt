pub mod WellFormed
pub mod Saved
pub mod Told
pub mod Back
pub mod SavedArgument
