pub mod EndedLemmas
pub mod NotedLemmas
pub mod ServeLemmas
pub mod StepLemmas
pub mod WorkLemmas
