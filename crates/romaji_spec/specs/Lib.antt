-- Document 02, request 1, "Romaji typing for the terminal", as definitions, without proofs. All of them compute.
pub mod KanaTables
pub mod Pieces
pub mod Typing
pub mod HostStates
