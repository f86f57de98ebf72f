-- The board's words, as document 01 has them.
pub mod Netlist
pub mod Board
pub mod Rule
