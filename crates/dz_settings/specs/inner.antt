-- Inner: how the code keeps a secret.
pub mod Secrets
