pub mod Path
pub mod Led
pub mod Folding
pub mod Text
pub mod Spelling
pub mod Stored
pub mod Stack
pub mod Fold
