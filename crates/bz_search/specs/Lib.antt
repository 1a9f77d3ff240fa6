pub mod Abreast
pub mod Chain
pub mod Nearest
pub mod Place
pub mod Sorting
pub mod Span
pub mod Starts
pub mod Sweep
