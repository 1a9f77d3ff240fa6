pub mod Batch
pub mod Counted
pub mod Formats
pub mod Found
pub mod Together
