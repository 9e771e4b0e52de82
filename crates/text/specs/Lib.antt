pub mod Hex
pub mod Decimal
pub mod Put
pub mod Read
pub mod Laws
pub mod Computed
