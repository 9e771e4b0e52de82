pub mod Numbers
pub mod Error
pub mod Frame
pub mod FrameLaws
pub mod Writer
pub mod Writing
pub mod Computed
