pub mod LawLemmas
pub mod ScheduleLemmas
pub mod TournamentLemmas
