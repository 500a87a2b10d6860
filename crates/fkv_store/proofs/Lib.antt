pub mod StopLemmas
pub mod ClosingLemmas
pub mod CountLemmas
mod MoveLemmas
mod LeftLemmas
mod PartedLemmas
pub mod PassLemmas
mod RunLemmas
mod RowLemmas
pub mod StrangeLemmas
pub mod TurnLemmas
