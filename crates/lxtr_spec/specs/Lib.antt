-- Document 01 as definitions, without proofs, with requests 2, 3, 5 and 6 of document 02. Each file names its section. All of them
-- compute, except Sets and Meaning, which state what has to hold.
pub mod Ranges
pub mod Numbers
pub mod Labels
pub mod Joining
pub mod Image
pub mod Refusals
pub mod FaultPlaces
pub mod HighestValues
pub mod Walks
pub mod Searches
pub mod Positions
pub mod Reasons
pub mod Completions
pub mod KeyLists
pub mod CodeMaps
pub mod Placing
pub mod Builds
pub mod HostNumbers
pub mod Lines
pub mod Sets
pub mod Meaning
pub mod Answers
pub mod Samples
