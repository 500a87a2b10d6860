pub mod StatusLemmas
pub mod TellingLemmas
pub mod WholeLemmas
pub mod MakingLemmas
pub mod OpeningLemmas
pub mod SpillingLemmas
