pub mod Grouping
pub mod Keeping
pub mod Plainly
pub mod Promised
pub mod Running
pub mod Seeking
