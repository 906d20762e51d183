pub mod View
pub mod Fetch
pub mod Manner
