pub mod Laws
pub mod Stream
pub mod inner
