pub mod WordLemmas
pub mod KeyLemmas
pub mod GrammarLemmas
pub mod LineLemmas
pub mod ReadLemmas
pub mod OneReadingLemmas
