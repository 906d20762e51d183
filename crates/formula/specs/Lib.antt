pub mod Kept
pub mod Party
pub mod Of
pub mod Forms
pub mod Keeping
pub mod Equal
pub mod Text
