-- The text writer: what it writes, and when it refuses.
pub mod WriteText
