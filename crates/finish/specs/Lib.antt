-- Finish and plan as calls.
pub mod Answer
pub mod Finish
pub mod Plan
pub mod Condition3
pub mod Twice
