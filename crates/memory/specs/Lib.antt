pub mod Calls
pub mod Cell
pub mod Memory
pub mod Span
