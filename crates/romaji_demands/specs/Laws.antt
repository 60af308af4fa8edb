-- The proofs of the demand, one idea in each file.
-- What a set of pairs says of texts, without an image.
pub mod FrontParts
pub mod Pieces
pub mod Cuts
-- What the searches find over an image.
pub mod Found
pub mod CutTexts
-- What is refused.
pub mod TableRefusals
-- The demand.
pub mod Typing
pub mod Outcomes
-- What two calls answer.
pub mod TwoCalls
pub mod Parts
pub mod ManyParts
-- The forms that C has.
pub mod HostForms
