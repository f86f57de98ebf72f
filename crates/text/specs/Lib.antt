-- Text in lent memory, and how numbers and lines are written.
pub mod Letters
pub mod Text
pub mod Lent
pub mod Forms
