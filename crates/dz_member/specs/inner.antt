-- Inner: how the code keeps listings and members.
pub mod Edits
pub mod Happened
pub mod Kept
pub mod Members
pub mod Nodes
pub mod Places
pub mod Walk
