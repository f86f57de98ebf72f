-- The lines of a listing.
pub mod Lines
