-- The tests of rule 11.
pub mod ListTests
pub mod Entries
