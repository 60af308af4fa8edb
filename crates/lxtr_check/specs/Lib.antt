-- The returns of the check.
pub mod Checks
