-- What the code computes from four bytes.
pub mod Swapping
