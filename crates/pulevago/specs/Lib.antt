pub mod Lent
pub mod Calls
pub mod Wrong
