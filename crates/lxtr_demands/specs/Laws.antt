-- The proofs of the demands, one idea in each file.
-- The codes of labels.
pub mod Codes
-- Bytes that the check accepts are an image.
pub mod Lists
pub mod Kinds
pub mod Walks
pub mod WalkSlots
pub mod Sound
-- An image is accepted, and has one set.
pub mod Slots
pub mod Entries
pub mod SlotsPass
pub mod ListsPass
pub mod Images
-- What is listed, and how many there are.
pub mod CodeOrder
pub mod Listings
pub mod Counts
pub mod Queries
pub mod Rooms
pub mod Completions
pub mod Demand3
-- Where a fault lies.
pub mod RightPlaces
-- The highest value.
pub mod HighestValue
-- The other searches.
pub mod Lookups
pub mod Prefixes
pub mod Searches
pub mod Demand2
-- Typing positions.
pub mod TypingPositions
pub mod PositionNumbers
-- Why a word is missing.
pub mod TrueReasons
-- The builder.
pub mod Sections
pub mod WorkSlots
pub mod WorkLists
pub mod BuiltImages
pub mod KeysBack
pub mod Placings
pub mod Builder
