pub mod ElfNames
pub mod GsymNames
