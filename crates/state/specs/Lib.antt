pub mod State
pub mod InBuffer
pub mod Laws
pub mod Wrong
