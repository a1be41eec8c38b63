-- Inner: how far a stream was written.
pub mod Filled
