pub mod Laws
pub mod Lock
pub mod Split
