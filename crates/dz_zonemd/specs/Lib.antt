pub mod Acceptance
pub mod Digested
pub mod Examples
pub mod Standing
pub mod Zonemd
pub mod inner
