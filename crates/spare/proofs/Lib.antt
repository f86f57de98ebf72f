-- The laws of spare and headroom.
pub mod Rooms
