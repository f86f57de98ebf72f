-- Rounds and chains of rounds, and one round as a call.
pub mod Answer
pub mod Round
pub mod OneRound
pub mod Condition3
pub mod Twice
