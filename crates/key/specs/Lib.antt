pub mod Requests
pub mod Meanings
pub mod Laws
