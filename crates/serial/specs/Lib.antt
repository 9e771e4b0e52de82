pub mod Receiver
pub mod Run
pub mod Taker
pub mod Steps
pub mod Answers
pub mod Consistency
pub mod Computed
