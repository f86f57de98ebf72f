-- The job file: what it holds, when it is refused, and what is read of it.
pub mod Job
pub mod Check
pub mod Read
pub mod Board
pub mod Checked
