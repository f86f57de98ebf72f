-- The theorem about the table, and what its rows say of every plan, round and chain of rounds.
pub mod Ways
pub mod Texts
pub mod Table
pub mod Plans
pub mod Rounds
pub mod Chains
pub mod Cases
