-- The proofs of the demand, one idea in each file.
-- Entries and lists of entries, without a table.
pub mod CutEntries
pub mod ListsAt
-- A table and its lists.
pub mod TableForms
pub mod TableLists
-- What is answered over an image.
pub mod TableChecks
pub mod EntryAnswers
-- The demand.
pub mod EntryDemand
