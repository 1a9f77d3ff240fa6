pub mod AnswerText
pub mod Canon
pub mod CanonicalRun
pub mod Generated
pub mod GeneratedTable
pub mod LowDigits
pub mod Parts
