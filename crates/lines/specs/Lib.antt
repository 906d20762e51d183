pub mod Forms
pub mod Rest
pub mod Left
pub mod Obey
pub mod Keys
