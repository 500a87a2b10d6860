pub mod CommandLineLemmas
pub mod OptionLemmas
pub mod RequestLemmas
pub mod MemoryLemmas
pub mod SourceLemmas
pub mod SpillLemmas
