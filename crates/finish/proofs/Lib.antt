-- The laws that the proofs of the functions lean on.
pub mod Dealing
pub mod Settling
pub mod Answering
pub mod Promises
pub mod Unique
