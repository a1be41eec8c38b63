pub mod Examples
pub mod Fault
pub mod Kept
pub mod Laws
pub mod Payload
pub mod Store
pub mod inner
