-- Inner: how the code keeps an index.
pub mod Above
pub mod Kept
pub mod Parts
pub mod Portion
