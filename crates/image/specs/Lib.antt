pub mod Base
pub mod Digit
pub mod Hex
pub mod Image
pub mod Place
pub mod Read
