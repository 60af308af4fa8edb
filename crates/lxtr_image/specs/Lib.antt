-- What the code computes, turn by turn.
pub mod CodeSearch
pub mod Blocks
