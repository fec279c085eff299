-- Laws that belong to no one function; Totals is the theorem about every peptide's row.
pub mod Counting
pub mod Positions
pub mod Rows
pub mod Classes
pub mod Totals
pub mod Numbers
pub mod Appending
pub mod Pairs
pub mod Seen
pub mod Shares
pub mod Finite
