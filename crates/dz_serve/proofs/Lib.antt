pub mod ConfigLemmas
pub mod CrossLemmas
pub mod EndLemmas
pub mod RowLemmas
pub mod RunLemmas
