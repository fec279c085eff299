-- Texts of `key=value` lines: numbers as digits, lines, and readers. Definitions only.
pub mod Ascii
pub mod Decimal
pub mod Reader
pub mod Line
pub mod Answer
