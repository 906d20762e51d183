pub mod Bits
pub mod Entries
pub mod Reading
pub mod Writing
pub mod Laws
pub mod Text
