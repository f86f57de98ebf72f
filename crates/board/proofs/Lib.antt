-- The laws of the board's arithmetic.
pub mod Loads
pub mod Excess
pub mod Alike
pub mod Limit
pub mod Change
pub mod Spread
pub mod Deal
pub mod Halves
pub mod Rule
