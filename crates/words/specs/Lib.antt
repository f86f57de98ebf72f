-- Refusals with their places, numbers of two bytes, and lent memory.
pub mod Verdict
pub mod Checked
pub mod Number
pub mod Lent
