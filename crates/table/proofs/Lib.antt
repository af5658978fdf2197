pub mod Packing
pub mod Decoding
pub mod Rows
pub mod Listed
pub mod Branches
pub mod Acts
pub mod Masks
