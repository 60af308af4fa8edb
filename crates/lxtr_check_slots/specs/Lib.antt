-- The tests of rule 10.
pub mod SlotTests
