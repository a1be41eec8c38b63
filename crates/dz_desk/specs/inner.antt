-- Inner: how the code keeps the published list.
pub mod Kept
pub mod Ledger
