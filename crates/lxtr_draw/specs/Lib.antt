-- The code's returns as cases of the definitions (DrawnLines), and in which list an entry lies (EntryLists). DrawnWhole says that
-- no line is cut, and DrawingExamples is a table of examples.
pub mod DrawnLines
pub mod EntryLists
pub mod DrawnWhole
pub mod DrawingExamples
