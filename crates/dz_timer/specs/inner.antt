-- Inner: how the code keeps the first of the moments.
pub mod Tournament
