-- Inner: how the code keeps jobs in flight and what was weighed.
pub mod Flying
pub mod Kept
pub mod Relisting
pub mod Renewing
pub mod Same
pub mod Judging
