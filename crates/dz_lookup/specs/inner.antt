-- Inner: how the code keeps things.
pub mod Links
pub mod Places
