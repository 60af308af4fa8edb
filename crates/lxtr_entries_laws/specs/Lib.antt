-- Facts about the definitions of `lxtr_entries_spec`, each stated once.
pub mod TableFacts
pub mod Parts
