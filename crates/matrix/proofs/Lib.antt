pub mod Laws
pub mod Lists
pub mod Exchange
pub mod Column
pub mod Nonzero
