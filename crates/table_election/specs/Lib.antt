pub mod Elect
pub mod Least
pub mod Lead
pub mod Stand
