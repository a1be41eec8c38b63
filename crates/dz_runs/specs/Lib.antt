pub mod Counted
pub mod Node
pub mod Runs
