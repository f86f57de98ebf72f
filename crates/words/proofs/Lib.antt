-- The order of refusals, and numbers of two bytes.
pub mod Order
pub mod LowestRefusal
pub mod Always
pub mod Bytes
pub mod Stretches
