pub mod Mi
pub mod Fitting
pub mod Entry
