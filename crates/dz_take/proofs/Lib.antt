pub mod DecidingLemmas
pub mod DistinctLemmas
pub mod FitLemmas
pub mod JudgingLemmas
pub mod KindLemmas
pub mod LawLemmas
pub mod TakingLemmas
