-- Facts about the builder's definitions, each stated once. A reader of contracts meets only KeyListFacts, CodeTables
-- and Work; inside `lxtr_place` and `lxtr_fit` also Ready of PlacingSteps, and SlotsBelow and each_step of SlotLoops.
pub mod KeyListFacts
pub mod CodeTables
pub mod Work
-- key lists: one key, and a list that is not refused
pub mod KeyReading
pub mod Passing
-- the code map: rising lists, the labels used, and their order
pub mod RisingNumbers
pub mod Moving
pub mod UsedLabels
pub mod Maps
-- what placing does to the work
pub mod Groups
pub mod ChildCodes
pub mod TableCodes
pub mod SlotWords
pub mod PlacingSteps
pub mod FirstFit
pub mod SettledSlots
pub mod FreeSlots
pub mod SlotLoops
pub mod Placed
-- what it leaves there
pub mod Nodes
pub mod Trees
pub mod TreeSlots
pub mod PairSets
pub mod Paths
-- the children lists of a work
pub mod ChildLists
pub mod UsedSlots
pub mod Filled
pub mod Filling
pub mod FilledWork
pub mod ListTotals
-- the steps of a build, and what its answer says
pub mod Outcomes
pub mod BuiltAnswers
-- facts that the types of the code keep
pub mod OneProof
