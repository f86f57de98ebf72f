-- The laws that the proofs of `pair` cite.
pub mod Counting
pub mod Linking
pub mod Gathering
pub mod Sweeping
