pub mod Answers
pub mod Computed
pub mod DecodeLaws
pub mod Headers
pub mod OneResult
pub mod Wrong
