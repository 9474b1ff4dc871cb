pub mod Message
pub mod Send
