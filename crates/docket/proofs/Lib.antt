mod Rows
mod Held
mod Numbers
mod Placing
mod Forth
mod Back
mod Taking
pub mod Packing
mod Whole
mod Settles
mod Filing
mod Laws
