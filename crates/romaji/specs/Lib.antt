-- Laws of the code of romaji typing.
pub mod Errors
pub mod Labels
pub mod Tables
pub mod Texts
pub mod NextPieces
pub mod Progress
pub mod Counting
pub mod Writing
pub mod Answering
pub mod StateBytes
