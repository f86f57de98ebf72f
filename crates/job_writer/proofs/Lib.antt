-- The laws of the job writer.
pub mod Writing
pub mod RoundTrip
