-- Inner: how the code keeps things.
pub mod Chains
pub mod Hashing
pub mod Places
pub mod Streams
