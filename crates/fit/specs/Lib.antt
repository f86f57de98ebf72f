-- An assignment that is fit for a sheet.
pub mod Fit
