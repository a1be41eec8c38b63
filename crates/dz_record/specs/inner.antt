-- Inner: how the code keeps records.
pub mod Kept
