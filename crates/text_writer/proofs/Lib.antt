-- The laws of the text writer: its verdict where a job passes, how long a text is, and a text put piece by piece.
pub mod Stages
pub mod Long
pub mod Putting
