-- What the align program answers to a text. Definitions only.
pub mod AlignText
pub mod Ready
