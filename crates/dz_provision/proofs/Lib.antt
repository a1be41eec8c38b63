mod AloudLemmas
pub mod FaultLemmas
pub mod HandedLemmas
pub mod HeldLemmas
pub mod LogLemmas
mod MomentLemmas
mod RestoreLemmas
pub mod SettledLemmas
pub mod StartLemmas
pub mod TakenLemmas
mod TaskLemmas
mod TaskListLemmas
