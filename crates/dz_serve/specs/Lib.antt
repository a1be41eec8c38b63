pub mod Command
pub mod Ends
pub mod Rows
pub mod Runs
pub mod Workers
