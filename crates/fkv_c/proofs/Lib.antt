pub mod Loosely
pub mod Handling
pub mod LeadLemmas
pub mod CountLemmas
pub mod StatusLemmas
pub mod UncountedLemmas
