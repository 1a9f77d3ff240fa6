pub use Rattle.bz_lookups.proofs.BatchLemmas
pub mod CauseLemmas
mod ConversionLemmas
pub mod EndLemmas
pub mod FaultLemmas
mod OpenLemmas
mod OutputLemmas
pub mod ProcessLemmas
mod ProductLemmas
mod ReadLemmas
pub mod ReplyLemmas
mod RunLemmas
mod StandAloneLemmas
pub mod TargetLemmas
mod TextsLemmas
pub mod UnreadLemmas
