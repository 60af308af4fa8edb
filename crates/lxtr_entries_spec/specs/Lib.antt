-- Document 02, request 7, "Goods entries behind the value numbers", as definitions, without proofs. All of them compute.
pub mod EntryTables
pub mod EntryLookups
pub mod HostEntries
