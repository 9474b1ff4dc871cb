pub mod Sendable
pub mod Sent
