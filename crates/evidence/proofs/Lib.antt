-- The bytes at fault: what points at them, and that they lie inside the file that they are in.
pub mod Pointing
pub mod Inside
