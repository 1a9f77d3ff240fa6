pub mod AddressLemmas
pub mod FieldLemmas
pub mod InputTextLemmas
pub mod LineGrammarLemmas
pub mod OptionLemmas
pub mod ReadingLemmas
pub mod RequestLemmas
