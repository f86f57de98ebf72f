-- Spare and headroom.
pub mod Spare
