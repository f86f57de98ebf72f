-- What becomes of lent memory: a room that a call writes to, and a stretch of the caller's own bytes that a call hands back.
use Rattle.std.specs.Prelude.{◌≡◌, List, ◌++◌, ℕ, ◌+◌, length, take, drop, Ok, Err}
use Rattle.std.specs.Borrow.{Bor}
use Rattle.words.specs.Verdict.{Verdict}

-- a room with `new` written at its front; beyond that it stays as it was
abbrev pub onto : List ℕ → List ℕ → List ℕ
onto new room = new ++ drop (length new) room

-- a room after a call: written where the call is done, untouched where it is refused
abbrev pub room_after : Verdict → List ℕ → List ℕ → List ℕ
room_after (Ok _) new room = onto new room
room_after (Err r) new room = room

-- r is the caller's own n bytes of s from `at` on
pub record Stretch (s : Bor (List ℕ)) (at n : ℕ) (r : Bor (List ℕ)) : Type 0 where
  pub block : r.ref_ptr.0 ≡ s.ref_ptr.0
  pub start : r.ref_ptr.1 ≡ at + s.ref_ptr.1
  pub holds : r.now ≡ take n (drop at s.now)
