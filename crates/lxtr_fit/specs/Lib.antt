-- How many slots the work allows, the map of the free ones, and the search for a base, turn by turn.
pub mod FreeMaps
pub mod TakenSlots
pub mod MapLoops
pub mod Fitting
