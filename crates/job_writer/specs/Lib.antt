-- The job writer: what it writes, when it refuses, and what a job file means.
pub mod Write
