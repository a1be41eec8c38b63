pub mod InOrder
pub mod NodeLemmas
pub mod ParentLemmas
pub mod RunLemmas
