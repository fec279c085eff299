-- The text of an answer of the align program. Definitions only.
pub mod Output
