-- The input of the align program: its grammar, its reader, and columns of rows. Definitions only.
pub mod Input
pub mod Parse
pub mod Columns
