-- The laws that the proofs of `walk` cite.
pub mod Two
pub mod Round
pub mod Labelling
