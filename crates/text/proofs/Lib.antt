-- Text put behind text, numbers in decimal, how long they are, and letters put behind a text in a lent room.

pub mod Putting
pub mod Decimals
pub mod Lengths
pub mod Gaining
