-- The laws that the proofs of `split` cite.
pub mod Balance
pub mod Orienting
pub mod Parting
pub mod Halving
