-- The order of the rows: what is claimed of calls of the alignment, of whole runs and of the align program's texts
-- (`Order`, `Texts`), what row order does move (`Moves`), and what the laws inside the proof speak of (`Alike`).
-- Definitions only.
pub mod Order
pub mod Texts
pub mod Moves
pub mod Alike
