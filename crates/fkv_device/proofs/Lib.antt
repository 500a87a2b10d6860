pub mod ByteLemmas
pub mod KnownLemmas
