pub mod EachWorld
pub mod FreshStamps
pub mod HeldWorlds
pub mod LookedLemmas
pub mod StampHashing
pub mod WorldLists
