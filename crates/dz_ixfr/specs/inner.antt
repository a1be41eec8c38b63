-- Inner: how the code keeps things.
pub mod Kept
