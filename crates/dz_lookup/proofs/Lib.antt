pub mod Follow
pub mod FoundLemmas
pub mod Barriers
pub mod Walk
pub mod Within
pub mod CountedLemmas
mod LinkLemmas
