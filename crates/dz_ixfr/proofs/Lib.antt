pub mod Amids
pub mod ChangeLemmas
pub mod FedLemmas
pub mod FromEnd
pub mod KeptLemmas
pub mod Soas
pub mod ToEnd
