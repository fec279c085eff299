-- What a fit over samples is: the normal equations, the sums of the target, predictions, r2 and the fit's outcome; and
-- how the equations are stored, in the workspace that it is worked out in.
pub mod Regression
pub mod Triangle
pub mod Sparse
pub mod Workspace
pub mod Solve
