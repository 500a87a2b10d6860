pub mod Tables
pub mod Writing
pub mod Refusing
pub mod Faults
pub mod Keeping
pub mod Spilling
