-- What the code computes, turn by turn and test by test.
pub mod KeyRefusals
pub mod Keys
pub mod Walking
