-- What the command reads and prints, as definitions, without proofs. All of them compute.
pub mod Utf8
pub mod WordLists
pub mod Forms
pub mod Commands
pub mod Drawings
