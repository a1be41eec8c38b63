pub mod Answers
pub mod Broken
pub mod Examples
pub mod Laws
pub mod Listing
pub mod Member
pub mod inner
