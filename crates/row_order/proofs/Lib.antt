-- The proof that the order of the rows doesn't move the alignment: reorderings (`Reordering`), a total order of floats
-- (`Order`), the smallest times (`Smallest`), where a zero's sign dies (`Signs`), the files' records (`Lines`), and the
-- claims for calls and runs (`RowOrder`), texts (`Texts`) and for what does move (`Moves`).
pub mod Reordering
pub mod Cells
pub mod Order
pub mod Smallest
pub mod Signs
pub mod Lines
pub mod Records
pub mod RowOrder
pub mod Texts
pub mod Moves
