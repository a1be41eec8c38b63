pub mod Answer
pub mod Examples
pub mod Layout
pub mod ReadsBack
pub mod Reply
pub mod Secure
pub mod SecureExamples
pub mod inner
