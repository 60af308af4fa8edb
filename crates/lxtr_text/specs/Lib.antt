-- Text appended byte by byte. A reader of contracts meets Appended of Appends. Rooms says that forms are not cut; TextExamples is a
-- table of examples, and EntryExamples has one for the line of an entry.
pub mod Appends
pub mod Writing
pub mod Characters
pub mod Filling
pub mod Rooms
pub mod TextExamples
pub mod EntryExamples
