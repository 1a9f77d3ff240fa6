pub mod NumberLemmas
pub mod ProgramLemmas
pub mod WhereLemmas
