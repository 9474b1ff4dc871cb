pub mod Row
pub mod Setting
pub mod Image
pub mod Shown
pub mod Echoes
pub mod Crowd
pub mod Cases
