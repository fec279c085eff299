-- What the proofs of `float` share, and the laws that other crates cite.
pub mod Digits
pub mod Exact
pub mod Laws
pub mod Nan
pub mod Order
pub mod Products
pub mod Round
pub mod Whole
pub mod Zeros
mod Library
