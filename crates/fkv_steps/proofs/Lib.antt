pub mod PrintingLemmas
pub mod RunningLemmas
pub mod WritingLemmas
