pub mod State
pub mod InBuffer
pub mod StateLaws
pub mod OneResult
pub mod Wrong
