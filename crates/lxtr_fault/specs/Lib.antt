-- The returns of the code that finds a fault.
pub mod FaultTests
