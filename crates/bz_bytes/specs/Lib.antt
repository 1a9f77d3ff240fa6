pub mod Byte
pub mod Cursor
pub mod Leb128
pub mod Line
pub mod Little
pub mod Number
pub mod Path
pub mod ZeroEnded
