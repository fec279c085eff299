pub mod Mass
