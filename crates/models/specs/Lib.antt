-- What the entry points of both models answer and leave in every slice.
pub mod Prediction
pub mod Call
