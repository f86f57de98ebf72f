-- The lines put piece by piece, and how long a refusal is.
pub mod Assembling
pub mod Short
