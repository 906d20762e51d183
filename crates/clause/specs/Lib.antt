pub mod Meaning
pub mod Parties
pub mod Groups
pub mod Parts
pub mod Reduced
pub mod Unions
