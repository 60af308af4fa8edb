-- What the builder's code computes, step by step: cleared work, and the outcome that each answer stands for.
pub mod Clearing
pub mod BuildReturns
