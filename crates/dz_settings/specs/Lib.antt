pub mod Config
pub mod Examples
pub mod Key
pub mod Peer
pub mod PeerExamples
pub mod Twice
pub mod inner
