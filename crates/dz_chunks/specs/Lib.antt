pub mod Chunked
pub mod Examples
pub mod Laws
pub mod Map
pub mod Search
pub mod inner
