pub mod ApartLemmas
pub mod BegunLemmas
pub mod ChangeLemmas
pub mod EndedLemmas
pub mod FindLemmas
pub mod JudgedLemmas
pub mod KeptLemmas
mod LawLemmas
pub mod LifeLemmas
pub mod ListLemmas
pub mod OwnLemmas
pub mod PlaceLemmas
pub mod PrimaryLemmas
pub mod SlotLemmas
pub mod SourceLemmas
pub mod StandsLemmas
pub mod StateLemmas
pub mod StepLemmas
