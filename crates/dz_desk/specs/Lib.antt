pub mod Hearing
pub mod Kinds
pub mod Rule
pub mod Seen
pub mod Steps
pub mod inner
