pub mod One
pub mod Two
pub mod Three
