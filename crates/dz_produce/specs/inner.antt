-- Inner: how the code keeps things.
pub mod Changes
pub mod Makings
pub mod Words
