-- The audit: its refusals, what it has shown when it is done, and those of the sheet writer and reader.
pub mod Audit
