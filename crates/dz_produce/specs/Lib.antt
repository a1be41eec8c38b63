pub mod Examples
pub mod Lines
pub mod Producing
pub mod inner
