-- The cases of document 01 that are proved: the table, and what its rows mean.
pub mod Ways
pub mod Table
pub mod Rounds
pub mod Holds
