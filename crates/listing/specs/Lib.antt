pub mod Text
pub mod Listing
pub mod Closing
pub mod Turn
pub mod Laws
pub mod Computed
