pub mod Numbers
pub mod Header
pub mod Decode
pub mod Laws
pub mod Computed
pub mod Wrong
