pub mod Assembly
pub mod Changes
pub mod Examples
pub mod Incremental
pub mod Laws
pub mod Reading
pub mod inner
