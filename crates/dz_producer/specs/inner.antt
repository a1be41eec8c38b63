-- Inner: how the code keeps things.
pub mod Changes
pub mod Nodes
pub mod Sizes
