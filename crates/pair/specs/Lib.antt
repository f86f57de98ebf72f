-- The definitions that the contracts of `pair` cite: what callers need, and the states of its loops.
pub mod Pair
pub mod Making
