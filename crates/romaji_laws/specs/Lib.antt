-- Facts about the definitions of romaji typing.
pub mod Steps
pub mod TextPlaces
