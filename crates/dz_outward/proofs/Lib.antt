pub mod OutgoingLemmas
pub mod SizingLemmas
pub mod ZoneLemmas
pub mod RoundLemmas
