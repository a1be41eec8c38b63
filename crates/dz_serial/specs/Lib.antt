pub mod Examples
pub mod Serial
