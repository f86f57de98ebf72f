-- The laws behind each step of a recolouring.
pub mod Collecting
pub mod Gathering
pub mod Marking
pub mod Writing
pub mod Sharing
pub mod Recolouring
