-- What the loop over the slots keeps, and the returns.
pub mod Bounds
