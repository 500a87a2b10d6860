pub mod Words
pub mod Grammar
pub mod Reading
pub mod Script
pub mod OneReading
pub mod Configs
