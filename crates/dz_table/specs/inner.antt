-- Inner: how the code keeps a table.
pub mod Ahead
pub mod Kept
