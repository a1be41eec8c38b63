-- Inner: how the code keeps the list, and what it makes of a table.
pub mod Changed
pub mod Entries
pub mod Processed
