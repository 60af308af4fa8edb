-- Facts about the definitions of `lxtr_spec`, each stated once. A reader of contracts meets only the three records of Passed,
-- IsSlot of Walking, `over` of Overlays, first_in of FirstPlaces, Accepted and `ancestor` of Facts (inside `lxtr_check`,
-- `lxtr_complete` and `lxtr_check_reach`), for sorted tables Sorted and place_by of OrderedLists, and for the map of free slots
-- SlotMaps, FirstOf of Firsts, and Reordered, is_swap_mask and bit_under of JoinedWords.
pub mod Tests
pub mod RangeTests
pub mod Firsts
pub mod RefusalChains
pub mod Failures
pub mod JoiningLaws
pub mod BinaryDigits
pub mod SlotMaps
pub mod WordSearch
pub mod JoinedWords
pub mod KeyOrder
pub mod Passed
pub mod ListPlaces
pub mod ByteOrders
pub mod ReadBack
pub mod Sorted
pub mod Bijections
pub mod Members
pub mod Leading
pub mod Inserted
pub mod OrderedLists
pub mod Runs
pub mod Limit
pub mod Lengths
pub mod Overlays
pub mod Facts
pub mod KeyPrefixes
pub mod StepFacts
pub mod PositionFacts
pub mod Faults
pub mod Refused
pub mod EntryPlaces
pub mod ListEntries
-- What the code computes, turn by turn and test by test, as far as several crates need it: a search for the first number that
-- passes a test, a count of those that do, a step, the walk of a query, what the searches answer.
pub mod Scans
pub mod FirstPlaces
pub mod Finds
pub mod Tallies
pub mod Stepping
pub mod QueryLabels
pub mod Walking
pub mod Cases
pub mod SearchReturns
pub mod WalkReasons
-- how a table of computed examples is stated and proved
pub mod ExampleTables
