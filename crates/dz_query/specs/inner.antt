-- Inner: one request, and one frame.
pub mod Coming
pub mod Replying
pub mod Sending
