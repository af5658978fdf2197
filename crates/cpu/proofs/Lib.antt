pub mod Fetching
pub mod Running
pub mod Joining
