pub mod Generated
pub mod GeneratedSummary
pub mod Generating
pub mod Misuse
pub mod Run
pub mod StackOutcome
pub mod StackReply
pub mod StackRun
