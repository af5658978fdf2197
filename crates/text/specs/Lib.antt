pub mod Names
pub mod Mnemonics
pub mod Named
pub mod Text
pub mod Written
