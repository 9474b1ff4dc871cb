pub mod Receive
