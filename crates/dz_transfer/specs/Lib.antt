pub mod Receipts
pub mod Serving
pub mod inner
