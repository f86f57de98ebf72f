-- The laws of an assignment that is fit for a sheet.
pub mod Parts
