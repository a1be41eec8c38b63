pub mod Chain
pub mod Counted
pub mod Examples
pub mod Found
pub mod Laws
pub mod inner
