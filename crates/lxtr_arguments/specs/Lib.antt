pub mod Rows
pub mod CommandExamples
