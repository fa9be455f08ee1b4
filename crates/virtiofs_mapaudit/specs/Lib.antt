pub mod Answers
pub mod Everyone
pub mod Running
pub mod Whole
