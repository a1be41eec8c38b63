pub mod Query
pub mod Fetching
pub mod inner
