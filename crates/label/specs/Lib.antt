pub mod Marks
pub mod Labels
pub mod Order
pub mod Tests
pub mod Kinds
