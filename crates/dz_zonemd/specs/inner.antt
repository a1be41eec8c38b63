-- Inner: how the code finds what it looks for.
pub mod Claims
pub mod Places
