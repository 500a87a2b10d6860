pub mod Histories
pub mod Merges
pub mod WrongHistories
