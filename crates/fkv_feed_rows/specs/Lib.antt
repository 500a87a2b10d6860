pub mod Amounts
pub mod Rows
pub mod Feeds
pub mod Watching
