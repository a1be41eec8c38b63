pub mod Rising
pub mod Nearest
pub mod Putting
pub mod KeptLemmas
pub mod LastLemmas
pub mod AheadLemmas
pub mod AboveLemmas
pub mod CostLemmas
