pub mod Words
pub mod Places
pub mod Entries
pub mod Changes
pub mod Storage
