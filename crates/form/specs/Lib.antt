-- The text of a job: its form, where it breaks, and how it is walked.
pub mod Form
pub mod Breaks
pub mod Walk
pub mod Answer
