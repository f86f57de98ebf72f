-- The theorems about rounds.
pub mod Condition3
pub mod Stepping
pub mod Calling
pub mod Promises
pub mod Chains
pub mod Planning
pub mod Unique
pub mod Small
