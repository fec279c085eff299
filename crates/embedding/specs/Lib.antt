-- The design rows of the two models. Definitions only.
pub mod Count
pub mod Classes
pub mod Design
pub mod Listing
pub mod Row
pub mod Appending
