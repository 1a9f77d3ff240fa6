pub mod Addresses
pub mod Fields
pub mod InputText
pub mod Lines
pub mod Requests
