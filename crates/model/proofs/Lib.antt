pub mod Singles
pub mod Lattices
pub mod Privileged
pub mod Attacking
