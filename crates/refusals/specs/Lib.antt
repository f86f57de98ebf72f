-- The refusals before a plan, and those of spare and headroom.
pub mod Refusals
pub mod Start
pub mod Asked
