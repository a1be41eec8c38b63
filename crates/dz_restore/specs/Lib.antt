pub mod Examples
pub mod Laws
pub mod Restoring
pub mod Turns
