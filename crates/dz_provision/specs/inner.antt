-- Inner: what is ready to be settled, what a write leaves, how jobs are kept that ended, and tasks of a store that
-- were done.
pub mod Ends
pub mod EndsInTurn
pub mod Ready
pub mod Tasks
pub mod Writing
pub mod Told
