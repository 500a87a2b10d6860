pub mod Text
pub mod Places
pub mod Chains
pub mod Deltas
pub mod WrongTexts
pub mod WrongDeltas
