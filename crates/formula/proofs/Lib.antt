pub mod Choosing
pub mod Gathering
pub mod Forming
pub mod Keeping
pub mod Printing
pub mod Equality
