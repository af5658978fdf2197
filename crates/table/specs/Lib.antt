pub mod Diagram
pub mod Table
pub mod Decode
pub mod Encode
pub mod Laws
pub mod Worked
