pub mod Demand3
pub mod Lost
pub mod Computed
pub mod Converse
pub mod Cutting
pub mod Wrong
