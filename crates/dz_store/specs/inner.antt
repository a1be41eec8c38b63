-- Inner: streams that are read and compared message by message, and where the records that count are.
pub mod Copying
pub mod Matching
pub mod Places
pub mod Reading
pub mod Short
