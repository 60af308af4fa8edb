-- Demands 2 and 3 of document 01, the claim about places of faults, that about the highest value, and the demands on typing positions
-- and on the reason why a word is missing: each is stated in a file of its own, and proved in Laws.
-- Then document 01's examples P1 to P11, as one table.
pub mod Operations
pub mod Demand3
pub mod Demand2
pub mod Builder
pub mod RightPlaces
pub mod HighestValue
pub mod TypingPositions
pub mod TrueReasons
pub mod Laws
pub mod Rows
pub mod Examples
