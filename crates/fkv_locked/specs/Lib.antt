pub mod Kept
pub mod Turns
pub mod Locks
pub mod Fresh
pub mod Compacting
pub mod AtOnce
pub mod Owns
pub mod Marks
