-- The demand on romaji typing, its examples, and what it rules out; the proofs are in Laws/.
pub mod Cuts
pub mod TypingDemand
pub mod HostForms
pub mod Laws
pub mod TypingRows
pub mod TypingExamples
pub mod TypingLimits
pub mod TypingInstances
