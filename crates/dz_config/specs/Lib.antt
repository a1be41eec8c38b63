pub mod Answers
pub mod Config
pub mod Document
pub mod Examples
pub mod Laws
pub mod Reading
