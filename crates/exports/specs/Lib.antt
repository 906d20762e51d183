pub mod Comparing
pub mod Entries
