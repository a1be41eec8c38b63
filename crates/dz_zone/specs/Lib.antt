pub mod Answers
pub mod Apart
pub mod Examples
pub mod Revision
pub mod Valid
pub mod Version
pub mod inner
