-- Laws of the code, return by return: reading a table, its check, and where the entries of a query lie.
pub mod Errors
pub mod Reading
pub mod Verdicts
pub mod Locating
