pub mod Laws
pub mod First
pub mod Told
