-- What a call of `solve` answers, and every slice after it.
pub mod Solve
