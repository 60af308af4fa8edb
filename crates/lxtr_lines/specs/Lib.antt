-- Lines of the programs, piece by piece. A reader of contracts meets the definitions that open Records. LineRooms says that the
-- lines are not cut.
pub mod KeyLines
pub mod Records
pub mod LineRooms
