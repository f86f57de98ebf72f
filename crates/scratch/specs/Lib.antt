-- The map of the lent scratch.
pub mod Scratch
