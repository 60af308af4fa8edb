-- Laws of the numbers and words that a host program gets as answers.
pub mod Numbering
pub mod PlaceWords
