-- The definitions that the contracts of `recolour` cite: what callers need, and its steps.
pub mod Recolour
pub mod Steps
