-- The sheet: what stands where in it.
pub mod Sheet
