pub mod AmountLemmas
pub mod DigitLemmas
pub mod RecordLemmas
pub mod ReadingLemmas
