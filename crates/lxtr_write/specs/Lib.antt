-- What the code that writes an image computes, turn by turn. A reader of its contracts meets only the records that open
-- SlotCounting, ListWriting and SectionWriting, and WriteOutcomes.
pub mod SlotCounting
pub mod Links
pub mod OneProof
pub mod ListWriting
pub mod SectionWriting
pub mod WriteOutcomes
