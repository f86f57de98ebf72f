-- The laws of the sheet.
pub mod Saying
pub mod Putting
