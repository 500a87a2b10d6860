pub mod Spilling
pub mod Reading
pub mod Parts
