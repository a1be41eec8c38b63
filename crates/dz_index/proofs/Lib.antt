pub mod KeyLemmas
pub mod LeadLemmas
pub mod PartLemmas
pub mod SearchLemmas
pub mod OrderLemmas
pub mod OwnerKeyLemmas
pub mod AddingLemmas
pub mod PlacesLemmas
pub mod RunLemmas
mod OctetLemmas
pub mod SharedLemmas
