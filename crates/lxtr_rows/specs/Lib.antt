-- Tables of rows besides P1 to P11, which are with the demands: readings that no example shows, where faults lie, the highest value,
-- typing positions, why a word is missing, and the example "Run" with the builder's refusals. And programs that the demands rule out,
-- whatever else they do.
pub mod Readings
pub mod FaultRows
pub mod HighestRows
pub mod PositionRows
pub mod ReasonRows
pub mod BuildRows
pub mod Instances
pub mod PositionInstances
pub mod ReasonInstances
