-- The laws of the search.
pub mod Tests
pub mod Below
pub mod Answers
pub mod Columns
pub mod Counters
pub mod Alike
