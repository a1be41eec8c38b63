-- Inner: how the code keeps names and labels.
pub mod Kept
pub mod Landings
pub mod Starts
