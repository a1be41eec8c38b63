pub mod FrameLemmas
pub mod RequestLemmas
