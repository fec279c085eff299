-- What a lookup in a list of records gives. Definitions only.
pub mod Record
