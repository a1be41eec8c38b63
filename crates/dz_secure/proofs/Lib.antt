pub mod SignatureLemmas
pub mod CoveringLemmas
pub mod MissingLemmas
pub mod EvidenceLemmas
