pub mod Lent
pub mod Answers
pub mod OneResult
pub mod Wrong
