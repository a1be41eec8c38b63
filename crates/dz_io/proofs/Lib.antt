pub mod ClockLemmas
pub mod TapeLemmas
