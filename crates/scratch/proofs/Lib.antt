-- What a front that is filled with 0 leaves.
pub mod Filling
