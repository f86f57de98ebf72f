-- The laws of the job file.
pub mod Nets
pub mod Stages
pub mod Passing
pub mod Width
pub mod Sound
pub mod Places
pub mod WrongEnd
pub mod Reading
