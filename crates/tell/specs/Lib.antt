-- The answers as C programs get them.
pub mod InC
