pub mod Rules
pub mod Records
pub mod ByRecord
