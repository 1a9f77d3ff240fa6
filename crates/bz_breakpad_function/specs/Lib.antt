pub mod InOrder
pub mod Indexed
pub mod Lent
pub mod LinesLeft
pub mod Locations
