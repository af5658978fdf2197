pub mod Access
pub mod Effect
pub mod Trap
pub mod Worked
