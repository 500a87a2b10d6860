pub mod RunLemmas
pub mod FeedsLemmas
pub mod SpilledLemmas
mod TableLemmas
mod WritingLemmas
