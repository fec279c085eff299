pub mod Training
