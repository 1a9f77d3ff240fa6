pub mod Command
pub mod Definition
pub mod Messages
