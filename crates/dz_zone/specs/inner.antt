-- Inner: how the code keeps things.
pub mod Kept
pub mod Kinds
pub mod Neighbours
pub mod Singletons
pub mod Overlay
pub mod Revising
pub mod Step
