pub mod Bank
pub mod Mailbox
pub mod Store
