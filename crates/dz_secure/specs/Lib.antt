pub mod Secure
pub mod inner
