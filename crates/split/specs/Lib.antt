-- The definitions that the contracts of `split` cite: what callers need, and its stages.
pub mod Split
pub mod Stages
