-- Inner: what was read of a file so far, and how a disk in memory is kept.
pub mod Copies
pub mod Left
pub mod Reading
