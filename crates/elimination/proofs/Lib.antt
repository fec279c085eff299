-- Laws that belong to no one function.
pub mod Made
pub mod Parts
pub mod Rows
pub mod Shape
pub mod Elimination
pub mod Plain
pub mod Ridges
