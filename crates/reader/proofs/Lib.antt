-- What holds of a reader and what it gives.
pub mod Giving
