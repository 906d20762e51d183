pub mod Lattice
pub mod Privileges
pub mod Attackers
