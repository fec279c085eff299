-- The statuses and the limits of document 01, the checks that several entry points share, and what an answer tells.
-- Definitions only.
pub mod Status
pub mod Limits
pub mod Checks
pub mod Told
