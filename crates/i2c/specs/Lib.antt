pub mod Numbers
pub mod Frame
pub mod Encode
pub mod Decode
pub mod Laws
pub mod Computed
pub mod Wrong
