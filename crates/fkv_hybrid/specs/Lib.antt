pub mod Views
pub mod Spelled
pub mod Pages
pub mod Loads
pub mod Flushes
pub mod Logs
pub mod Scans
pub mod WrongLogs
