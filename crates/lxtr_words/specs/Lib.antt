-- What the key list of a text of words has to be, and a table of examples; then the laws that prove this and the functions.
pub mod ListOfWords
pub mod WordExamples
-- The lines of a text, and the first line that makes no word.
pub mod TextLines
pub mod Problems
-- The words in order, each once.
pub mod Comparing
pub mod RisingKeys
pub mod WordTables
pub mod Tables
pub mod WordGathering
-- The key list of these words, and the answer.
pub mod KeyWriting
pub mod ListReturns
-- That list read back, and the proof of what it has to be.
pub mod ReadKeys
pub mod Listed
