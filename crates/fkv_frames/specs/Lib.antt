pub mod Ring
pub mod Held
pub mod Inside
