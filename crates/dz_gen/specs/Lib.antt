pub mod Texts
pub mod Records
pub mod Messages
pub mod Script
pub mod Reading
pub mod Summary
pub mod Outcomes
