-- What a walk over the nets counts.
pub mod Picked
