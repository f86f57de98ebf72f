-- The laws of the audit, and what it is worth: `Agree`.
pub mod Parts
pub mod Agree
pub mod Writing
