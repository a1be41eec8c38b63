pub mod ChangeLemmas
pub mod EndLemmas
pub mod LineLemmas
pub mod MakingLemmas
pub mod StreamLemmas
