-- What the code of placing computes, turn by turn. The public contracts use none of it; those of private functions use GroupRanges
-- and the definitions that open SettlingWords, GatheredCodes, Children and Within.
pub mod SettlingWords
pub mod GroupRanges
pub mod GroupRuns
pub mod GroupLoops
pub mod GatheredCodes
-- the recursion: the next child is fresh, the turns of the loop, and what is known meanwhile
pub mod Children
pub mod Turns
pub mod Within
-- from the tables to the code map, and all keys
pub mod Agreeing
pub mod AllKeys
pub mod Facts
pub mod Plans
