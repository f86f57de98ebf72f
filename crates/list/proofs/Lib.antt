-- The parts of a listing, how long it is, and plan's answer as the listing tells it.
pub mod Telling
pub mod Short
pub mod Answered
