-- What hosts see of the entry points' answers. Definitions only.
pub mod Answers
