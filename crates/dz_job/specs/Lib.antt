pub mod Examples
pub mod Job
pub mod Stream
