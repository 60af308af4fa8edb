-- The demand on entry tables, its examples, and what it rules out; the proofs are in Laws/.
pub mod EntryDemand
pub mod Laws
pub mod EntryRows
pub mod EntryExamples
pub mod EntryInstances
