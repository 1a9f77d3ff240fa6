pub mod AsKept
pub mod InOrderLemmas
pub mod IndexedLemmas
pub mod LineSearchLemmas
pub mod LocationLemmas
pub mod RunFrontLemmas
pub mod RunWalkLemmas
