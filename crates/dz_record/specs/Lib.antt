pub mod Answers
pub mod Examples
pub mod Fields
pub mod Order
pub mod Record
pub mod Records
pub mod inner
