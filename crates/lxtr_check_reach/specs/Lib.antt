-- The steps of rule 12.
pub mod WaysUp
