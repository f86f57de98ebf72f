-- The laws of the text reader: its walks line by line, its verdict, and what it gives back.
pub mod Stages
pub mod Walking
pub mod Never
pub mod RoundTrip
