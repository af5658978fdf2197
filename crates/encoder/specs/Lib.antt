pub mod Forms
pub mod Layouts
