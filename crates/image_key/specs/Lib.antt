pub mod Key
