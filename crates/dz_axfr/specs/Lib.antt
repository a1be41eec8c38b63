pub mod Assembly
pub mod Examples
pub mod Laws
pub mod Reading
pub mod Whole
pub mod inner
