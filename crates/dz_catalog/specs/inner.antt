-- Inner: how the code keeps things.
pub mod Below
pub mod Labels
