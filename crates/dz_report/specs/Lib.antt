pub mod Lines
pub mod Reason
