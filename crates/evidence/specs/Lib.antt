-- Evidence: the bytes at fault.
pub mod Evidence
