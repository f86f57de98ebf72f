-- The definitions that the contracts of `walk` cite: what callers need, and the states of its loops.
pub mod Walk
pub mod Going
