pub mod Examples
pub mod Notify
pub mod ReadsBack
pub mod Reply
