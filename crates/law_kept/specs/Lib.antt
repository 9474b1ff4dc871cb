pub mod Proved
pub mod Same
pub mod Entering
pub mod Keeping
pub mod Apart
pub mod InPlace
