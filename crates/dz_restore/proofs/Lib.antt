mod CoreLemmas
mod GrowLemmas
mod HoldLemmas
mod MoveLemmas
mod RestoredLemmas
mod TurnLemmas
mod UsedLemmas
