pub mod Normal
pub mod Bytes
