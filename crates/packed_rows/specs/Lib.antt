-- Rows of falling width, stored one after the other, and what a sample adds to them.
pub mod Falling
pub mod Added
