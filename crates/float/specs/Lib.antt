-- What the functions of `float` return, on the values of `lib.Ieee`. Definitions only.
pub mod Convert
pub mod Value
pub mod Hex
pub mod Number
