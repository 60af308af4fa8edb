-- What the header's tests compute.
pub mod Bytes
