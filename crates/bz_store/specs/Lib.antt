pub mod Frames
pub mod Shelf
pub mod Visits
pub mod Plain
pub mod Calls
pub mod Finding
