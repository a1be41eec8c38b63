pub mod LedgerLemmas
pub mod PrefixLemmas
pub mod RuleLemmas
mod KindLemmas
