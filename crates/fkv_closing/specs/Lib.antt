pub mod Lists
pub mod Closing
pub mod Refusing
