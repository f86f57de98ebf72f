-- The laws that the proofs of the functions lean on.
pub mod Walks
pub mod Crossbars
