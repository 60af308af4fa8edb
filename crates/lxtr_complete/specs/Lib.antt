-- What the code of completion computes, turn by turn, and what its answers mean. A reader of its contracts, all but one of private
-- functions, meets only the definitions that open RecordWriting and Listing, and Answers.
pub mod RecordWriting
pub mod Written
pub mod Sums
pub mod Amounts
pub mod Listing
pub mod Completing
pub mod Answers
