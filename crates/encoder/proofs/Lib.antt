pub mod Displacements
pub mod Fields
pub mod Halfwords
