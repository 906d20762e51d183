pub mod Steering
pub mod Granting
