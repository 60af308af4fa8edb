-- The chains of labels that rule 9 compares.
pub mod Chains
