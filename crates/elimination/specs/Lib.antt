-- The elimination on matrices as lists of rows, and the first ridge that solves a system.
pub mod Rows
pub mod Elimination
pub mod Plain
pub mod Ridge
