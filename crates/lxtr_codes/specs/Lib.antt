-- What the code computes, turn by turn. A reader of its contracts meets only stands_at, Gathered, the definitions that open
-- LabelCounting and Ranking, Assigned and CodedFront, all in functions that no other crate calls.
pub mod Inserting
pub mod LabelGathering
pub mod LabelCounting
pub mod Ranking
pub mod Mapping
