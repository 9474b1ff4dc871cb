pub mod Record
pub mod First
pub mod Call
pub mod Keys
