-- What the functions of `rt_matrix` return. Definitions only.
pub mod Line
pub mod Columns
pub mod Cells
