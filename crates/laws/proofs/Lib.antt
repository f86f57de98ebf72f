-- The laws of the definitions in specs/.
pub mod Sum
pub mod Rank
pub mod Greatest
pub mod Remainder
pub mod Lowest
pub mod FirstWhere
pub mod Test
pub mod Row
pub mod Cases
pub mod Matching
pub mod Count
