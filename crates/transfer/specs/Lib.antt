pub mod Builder
pub mod Walk
pub mod Transfers
pub mod Computed
pub mod Wrong
