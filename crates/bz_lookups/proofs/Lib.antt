pub mod BatchLemmas
pub mod FoundLemmas
pub mod GsymLemmas
pub mod HeldLemmas
pub mod TogetherLemmas
