-- What a round is made on.
pub mod Search
pub mod Columns
