pub mod Account
pub mod Laws
pub mod Patch
pub mod Seat
pub mod Step
