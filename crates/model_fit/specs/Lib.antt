-- What a model is fitted to, the checks of a call, and what the functions of the fit leave.
pub mod Input
pub mod Samples
pub mod Shared
