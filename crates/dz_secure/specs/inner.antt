-- Inner: how the code finds things.
pub mod Searchable
