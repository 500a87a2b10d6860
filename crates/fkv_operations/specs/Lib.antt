pub mod After
pub mod AfterLaws
pub mod Operations
pub mod Classes
pub mod KeptWords
pub mod Still
