-- Inner: what the code keeps.
pub mod Alone
pub mod AnswersHeld
pub mod Glue
pub mod Owner
pub mod Signed
