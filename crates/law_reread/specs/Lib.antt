pub mod Fit
pub mod Cut
pub mod Own
pub mod OwnArgument
pub mod Peer
pub mod Key
pub mod KeyArgument
