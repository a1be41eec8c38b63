pub mod Examples
pub mod Slot
pub mod Table
pub mod inner
