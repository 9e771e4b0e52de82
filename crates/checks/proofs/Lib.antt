-- Without `pub` stands what no other crate can name: how a byte's step is made, and what that rests on.
mod Table
mod Xor
pub mod Register
pub mod FrameCheck
mod FrameStep
mod Fold
pub mod PacketErrorCode
pub mod Part
pub mod Numbers
pub mod OneResult
pub mod Wrong
pub mod Bytes
pub mod Choice
pub mod Output
pub mod Each
pub mod Last
