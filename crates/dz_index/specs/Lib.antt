pub mod Examples
pub mod Index
pub mod Lead
pub mod Rows
pub mod SortKey
pub mod inner
