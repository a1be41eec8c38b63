pub mod QueryLemmas
pub mod StreamLemmas
