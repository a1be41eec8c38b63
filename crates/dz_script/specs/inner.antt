pub mod Left
pub mod Window
