-- What a reader holds and gives.
pub mod Held
