pub mod Computed
pub mod FrameLaws
pub mod Writer
pub mod Writing
pub mod Answers
pub mod OneResult
