pub mod GainLemmas
pub mod FrameLemmas
pub mod TakingLemmas
pub mod FetchLemmas
