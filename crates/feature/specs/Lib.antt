pub mod Feature
