-- Sums and counts, searches and tests of all numbers below a bound, and parts of a list.
pub mod Sum
pub mod Rank
pub mod Lowest
pub mod Test
pub mod Part
pub mod Row
pub mod Count
pub mod Matching
