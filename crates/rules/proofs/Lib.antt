pub mod Low
pub mod Onlookers
pub mod Embedding
pub mod Secrets
pub mod Hands
pub mod Steps
