-- The deal in the room of an assignment: one net more, and what a net finds there.
-- Assumes nothing.
use mathlib.Core.Path.{◌≡◌, refl, ap, sym, ◌∙◌}
use mathlib.Core.List.{List}
use Prim.Native.Nat.{ℕ, ◌+◌, ◌≤◌, ◌<◌}
use native.Mathlib.Omega.{arith}
use lib.ListN.{length, drop, set, get_or-append}
use lib.Seq.{drop_at}
use Rattle.laws.specs.Row.{at, row}
use Rattle.laws.proofs.Row.{length_row, row_at, row_more}
use Rattle.words.specs.Lent.{onto}
use Rattle.words.proofs.Bytes.{onto_next, length_onto}
use Rattle.board.specs.Netlist.{Netlist}
use Rattle.board.specs.Board.{deal, Alike}
use Rattle.finish.specs.Plan.{dealt_up_to, dealt}

module _ (J : Netlist) (room : List ℕ) where
  pub dealt_none : room ≡ dealt_up_to J 0 room
  unfolding dealt_up_to row
  dealt_none = refl

  pub dealt_more : (n x : ℕ) (plan : List ℕ) → n < length room → plan ≡ dealt_up_to J n room → x ≡ deal J n → set plan n x ≡ dealt_up_to J (n + 1) room
  unfolding dealt_up_to
  dealt_more n x plan l e q =
      rw (e, q) (onto_next (row (deal J) n) room (deal J n) n (length_row (deal J) n) l) ∙ ap (λ (t : List ℕ). onto t room) (sym (row_more (deal J) n))

  long : length (row (deal J) J.n) ≡ J.n
  long = length_row (deal J) J.n

  pub dealt_long : J.n ≤ length room → length (dealt J room) ≡ length room
  unfolding dealt_up_to
  dealt_long h = length_onto (row (deal J) J.n) room (omega (arith, long))

  pub dealt_beyond : drop J.n (dealt J room) ≡ drop J.n room
  unfolding dealt_up_to
  dealt_beyond = drop_at (row (deal J) J.n) (drop (length (row (deal J) J.n)) room) J.n long ∙ ap (λ (k : ℕ). drop k room) long

  -- it is the deal
  pub dealt_alike : Alike J (deal J) (at (dealt J room))
  unfolding dealt_up_to
  dealt_alike i l =
      sym (get_or-append (row (deal J) J.n) (drop (length (row (deal J) J.n)) room) 0 i (omega (arith, long)) ∙ row_at (deal J) J.n i l)
