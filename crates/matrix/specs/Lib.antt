pub mod Rows
pub mod Cells
pub mod Lists
pub mod Nonzero
