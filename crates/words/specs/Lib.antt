pub mod Hex
pub mod Decimal
pub mod Parted
pub mod Clauses
pub mod Formulas
pub mod Modes
