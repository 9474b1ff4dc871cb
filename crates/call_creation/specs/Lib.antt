pub mod Create
