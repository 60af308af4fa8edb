-- What the C functions answer.
pub mod EntryNumbers
pub mod Positions
pub mod PrefixWords
pub mod TypingNumbers
