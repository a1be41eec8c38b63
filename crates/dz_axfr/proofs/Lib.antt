pub mod KeptLemmas
pub mod ListLemmas
pub mod SiftLemmas
pub mod WholeLemmas
