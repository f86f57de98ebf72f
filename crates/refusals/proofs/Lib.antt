-- The refusals before a plan, and condition 2 of the verdict.
pub mod Faults
pub mod Starting
pub mod Asking
pub mod Condition2
