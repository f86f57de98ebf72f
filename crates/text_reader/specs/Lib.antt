-- The text reader: what it answers, and what becomes of the room.
pub mod ReadText
