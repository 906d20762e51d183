pub mod Choosing
pub mod Narrowing
