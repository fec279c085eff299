-- Laws that belong to no one function.
pub mod Answer
pub mod Ridges
