-- The laws of the form: numbers and words from their front, and the longest beginning piece by piece.
pub mod Digits
pub mod Stopping
pub mod Numbers
pub mod NetLines
pub mod Heads
pub mod Places
pub mod Whole
pub mod ByNumber
pub mod Most
pub mod Once
pub mod Alone
