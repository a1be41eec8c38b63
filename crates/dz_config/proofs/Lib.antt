pub mod TreeLemmas
pub mod PartLemmas
pub mod LaterLemmas
pub mod DownstreamLemmas
