-- The search answers `None` exactly on a legal assignment, and else the three that a round names: these and no others.
-- Assumes nothing.
use mathlib.Core.Path.{◌≡◌, ap, sym, subst, ◌∙◌}
use mathlib.Core.Bool.{true}
use mathlib.Core.Logic.{◌↔◌, dite}
use Prim.Native.Nat.{ℕ, ◌≤◌, ◌<◌}
use native.Mathlib.Decide.{dec_lt}
use native.Mathlib.Omega.{arith}
use borrow.Author.Tests.{lt-ltb, le-ltb, ltb-true}
use Rattle.laws.specs.Lowest.{first_where}
use Rattle.laws.proofs.FirstWhere.{first_where_at_most, first_where_before, first_where_holds, first_where_none, lowest_is_first}
use Rattle.std.specs.Prelude.{None}
use Rattle.board.specs.Netlist.{Netlist}
use Rattle.board.specs.Board.{degree, load, limit, InRange, Legal}
use Rattle.board.proofs.Excess.{legal_within, within_legal}
use Rattle.board.proofs.Limit.{room_below}
use Rattle.search.specs.declared.Over.{Over}
use Rattle.search.specs.Search.{over_at, room_at, over_fpga, fpga_of, crowded_of, room_of, over, search_of, LowestOver, Named}
use Rattle.search.proofs.Tests.{over_says, over_not, room_says, over_none}

-- an answer names one FPGA and two crossbars
pub over-parts : (v A B v' A' B' : ℕ) → over v A B ≡ over v' A' B' → (v ≡ v') × (A ≡ A') × (B ≡ B')
over-parts v A B v' A' B' e =
    let p : ◌≡◌ {A = Over} (record { fpga = record { 0 = v }; crowded = record { 0 = A }; room = record { 0 = B } }) (record { fpga = record { 0 = v' }; crowded = record { 0 = A' }; room = record { 0 = B' } }) = cc in
    (ap (λ (o : Over). o.fpga.0) p, ap (λ (o : Over). o.crowded.0) p, ap (λ (o : Over). o.room.0) p)

-- the three that an answer names
record Three (J : Netlist) (a : ℕ → ℕ) (v A B : ℕ) : Type 0 where
  below : v < J.f
  fpga : fpga_of J a ≡ v
  crowded : crowded_of J a v ≡ A
  room : room_of J a v ≡ B

module _ (J : Netlist) (a : ℕ → ℕ) where
  pub fpga-at-most : fpga_of J a ≤ J.f
  unfolding fpga_of
  fpga-at-most = first_where_at_most (over_fpga J a) J.f

  -- no FPGA is over, or the lowest is below f
  pub search-none : fpga_of J a ≡ J.f → search_of J a ≡ None
  unfolding search_of
  search-none e = rw (le-ltb (fpga_of J a) J.f (omega arith))

  pub search-some : fpga_of J a < J.f → search_of J a ≡ over (fpga_of J a) (crowded_of J a (fpga_of J a)) (room_of J a (fpga_of J a))
  unfolding search_of
  search-some l = rw (lt-ltb (fpga_of J a) J.f l)

  -- the FPGA that is found has a load above its width
  pub crowded_low : (v : ℕ) → v ≡ fpga_of J a → v < J.f → crowded_of J a v < J.c
  unfolding fpga_of over_fpga crowded_of
  crowded_low v e l =
      ltb-true _ _ (subst (λ (u : ℕ). over_fpga J a u ≡ true) (sym e) (first_where_holds (over_fpga J a) J.f (omega (arith, e))))

  three : (v A B : ℕ) → search_of J a ≡ over v A B → Three J a v A B
  three v A B e =
      dite (dec_lt (fpga_of J a) J.f)
      (λ l.
      let p = over-parts (fpga_of J a) (crowded_of J a (fpga_of J a)) (room_of J a (fpga_of J a)) v A B (sym (search-some l) ∙ e) in
      record {
        below = omega (arith, p.0);
        fpga = p.0;
        crowded = ap (crowded_of J a) (sym p.0) ∙ p.1;
        room = ap (room_of J a) (sym p.0) ∙ p.2;
      })
      (λ nl.
      let s = search-none (omega (arith, fpga-at-most)) in
      let z : ◌≡◌ {A = ℕ} 0 1 = cc in
      absurd (omega arith))

  three-search : (v A B : ℕ) → Three J a v A B → search_of J a ≡ over v A B
  three-search v A B t = search-some (omega (arith, t.below, t.fpga)) ∙ rw (t.fpga, t.crowded, t.room)

  settled-none : search_of J a ≡ None → fpga_of J a ≡ J.f
  settled-none e =
      dite (dec_lt (fpga_of J a) J.f)
      (λ l.
      let s = search-some l in
      let z : ◌≡◌ {A = ℕ} 0 1 = cc in
      absurd (omega arith)) (λ nl. omega (arith, fpga-at-most))

  none-legal : (fpga_of J a ≡ J.f) ↔ Legal J a
  unfolding fpga_of
  none-legal = (
    λ e. within_legal J a (λ v x lv lx. (over_none J a v).0 ((first_where_none (over_fpga J a) J.f).0 e v lv) x lx),
    λ h. (first_where_none (over_fpga J a) J.f).1 (λ v lv. (over_none J a v).1 (λ x lx. legal_within J a h v x lv lx)),
  )

  -- settled exactly where the assignment is legal
  pub settled-legal : (search_of J a ≡ None) ↔ Legal J a
  settled-legal = (λ e. none-legal.0 (settled-none e), λ h. search-none (none-legal.1 h))

  pub over-not-legal : (v A B : ℕ) → search_of J a ≡ over v A B → Legal J a → ⊥
  over-not-legal v A B e h =
      let s = settled-legal.1 h in
      let z : ◌≡◌ {A = ℕ} 0 1 = cc in
      omega arith

  module _ (v A B : ℕ) where
    -- what an answer says of any assignment
    pub over-lowest : search_of J a ≡ over v A B → LowestOver J a v A
    unfolding fpga_of crowded_of over_fpga
    over-lowest e =
        let t = three v A B e in
        let some : first_where (over_at J a v) J.c < J.c =
        ltb-true _ _ (subst (λ (u : ℕ). over_fpga J a u ≡ true) t.fpga (first_where_holds (over_fpga J a) J.f (omega (arith, t.fpga, t.below)))) in
        record {
          fpga = t.below;
          crossbar = omega (arith, t.crowded);
          above = (over_says J a v A).0 (subst (λ (x : ℕ). over_at J a v x ≡ true) t.crowded (first_where_holds (over_at J a v) J.c some));
          lower_fpgas = λ u x lu lx. (over_none J a u).0 (first_where_before (over_fpga J a) J.f u (omega (arith, t.fpga))) x lx;
          lower_crossbars = λ x l. (over_not J a v x).0 (first_where_before (over_at J a v) J.c x (omega (arith, t.crowded)));
        }

    -- and of one in range, at an FPGA with no degree above the limit
    pub named-if : InRange J a → degree J v ≤ limit J v → search_of J a ≡ over v A B → Named J a v A B
    unfolding room_of
    named-if h d e =
        let o = over-lowest e in
        let w = room_below J a h v d A o.crossbar o.above in
        let at : w.at ≡ B =
        sym (lowest_is_first (room_at J a v) (room_says J a v) J.c w) ∙ (three v A B e).room in
        let below : load J a v B < J.width v = subst (λ (x : ℕ). load J a v x < J.width v) at w.holds in
        record {
          over = o;
          room = record { crossbar = omega (arith, w.below); below = below; lower_crossbars = λ x l. omega (arith, w.first x (omega arith)) };
          apart = λ q. omega (arith, o.above, ap (load J a v) q);
        }
