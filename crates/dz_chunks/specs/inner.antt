-- Inner: how the code keeps a map.
pub mod Chunked
pub mod Ranked
