pub mod HistoryLemmas
pub mod MergeLemmas
pub mod WrongLemmas
