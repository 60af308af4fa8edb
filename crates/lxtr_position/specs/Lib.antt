-- What a position means.
pub mod Means
