pub mod State
pub mod Step
pub mod Runs
pub mod Tracking
pub mod Promise
pub mod Laws
