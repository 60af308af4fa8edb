-- The matches of a query, the two arrays that hold them, the longest of them, and what the answers of the searches mean. A reader of its
-- contracts meets Answers, and in `matches` the definitions of Matches and Places.
pub mod Matches
pub mod Places
pub mod Longest
pub mod Answers
