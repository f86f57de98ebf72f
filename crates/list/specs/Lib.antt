-- The listing of a plan.
pub mod Listing
