-- The whole: nets gathered, split and written back obey the rule of a round.
-- Assumes nothing.
use mathlib.Core.Path.{◌≡◌, refl, ap, sym, subst, ◌∙◌}
use mathlib.Core.Bool.{Bool, true, false, true≢false}
use mathlib.Core.Logic.{◌≢◌, ◌⊎◌, inl, inr, ⊎_elim}
use mathlib.Core.List.{List}
use Prim.Native.Nat.{ℕ, ◌+◌, ◌-◌, ◌≤◌, ◌<◌}
use native.Mathlib.Omega.{arith}
use lib.Dec.{eqb}
use Rattle.laws.specs.Rank.{rank}
use Rattle.laws.specs.Row.{at}
use Rattle.laws.proofs.Rank.{rank_less}
use Rattle.laws.proofs.Cases.{by_test, by_same}
use Rattle.job.specs.declared.Job.{Job}
use Rattle.board.specs.Netlist.{Netlist}
use Rattle.job.specs.Board.{board_of}
use Rattle.board.specs.Board.{load, total}
use Rattle.board.specs.Rule.{OnTwo, Moved, Clauses}
use Rattle.board.proofs.Change.{loads_together}
use Rattle.board.proofs.Rule.{on_two_says}
use Rattle.job.proofs.Sound.{sound}
use Rattle.split.specs.Split.{first_end, second_end, label_of, load_on, Halved}
use Rattle.recolour.specs.Recolour.{RecolourAsked, RecolouredIn}
use Rattle.recolour.specs.Steps.{taken, place, evened, nowhere, CollectedAll, label_for_y, WrittenBack}
use Rattle.recolour.proofs.Marking.{mark_odd, mark_even, on_either, on_x_test, on_y_test}
use Rattle.recolour.proofs.Sharing.{total_by_label, load_by_label, load_no_dummy, one_more, shared_by, halves_of}

module _ (job : Job) (plan₀ : List ℕ) (x y : ℕ) (s₀ : List ℕ) (asked : RecolourAsked job plan₀ x y s₀)
    (s₁ : List ℕ) (count : ℕ) (g : CollectedAll job plan₀ x y s₀ s₁ count) where
  module _ (s₂ : List ℕ) (h : Halved s₁ s₂ (evened count)) where
    abbrev mark : ℕ
    mark = label_for_y s₂ count

    abbrev label : ℕ → ℕ
    label = label_of s₂

    binary : (e : ℕ) → e < evened count → label e ≤ 1
    binary = h.halves.binary

    mark_of_dummy : count < evened count → mark ≡ label count
    mark_of_dummy = mark_odd s₂ count

    mark_small : mark ≤ 1
    mark_small =
        by_same count (evened count) (λ e. omega (arith, mark_even s₂ count (omega arith)))
        (λ ne. omega (arith, mark_of_dummy (omega arith), binary count (omega arith)))

    module _ (plan : List ℕ) (w : WrittenBack plan₀ plan job.head.n x y s₂ (label_for_y s₂ count) job.head.n (place plan₀ x y job.head.n)) where
      abbrev J : Netlist
      J = board_of job

      abbrev t : ℕ → Bool
      t = taken plan₀ x y

      in_board : (i : ℕ) → i < J.n → i < job.head.n
      in_board i l = omega (arith, job.well_formed.n)

      all : count ≡ rank t job.head.n
      all = g.collected.counted.is

      picked : (i : ℕ) → OnTwo x y (at plan₀ i) → t i ≡ true
      picked i = (on_two_says x y (at plan₀ i)).1

      moved : Moved J (at plan₀) (at plan) x y
      moved =
          record {
            stay = λ i l nx ny.
                by_test (t i) (λ e. absurd (⊎_elim nx ny ((on_two_says x y (at plan₀ i)).0 e))) (λ e. w.stay i (in_board i l) e);
            among = λ i l o. subst (OnTwo x y) (sym (w.put i (in_board i l) (picked i o))) (on_either x y mark (label (rank t i)));
          }

      -- the nets that are taken are on x or y by their labels, and no other net is
      put_y : (i : ℕ) → i < job.head.n → t i ≡ true → eqb (at plan i) y ≡ eqb (label (rank t i)) mark
      put_y i l e = rw (w.put i l e) (on_y_test x y mark (label (rank t i)) asked.two)

      put_x : (i : ℕ) → i < job.head.n → t i ≡ true → eqb (at plan i) x ≡ eqb (label (rank t i)) (1 - mark)
      put_x i l e =
          rw (w.put i l e)
          (on_x_test x y mark (label (rank t i)) asked.two mark_small (binary (rank t i) (omega (arith, all, rank_less t i job.head.n l e))))

      off : (z : ℕ) → OnTwo x y z → (i : ℕ) → i < job.head.n → t i ≡ false → at plan i ≢ z
      off z o i l f q = true≢false (sym (picked i (subst (OnTwo x y) (sym q ∙ w.stay i l f) o)) ∙ f)

      abbrev load_by : ℕ → ℕ → ℕ
      load_by v c = load_on (first_end s₁) (second_end s₁ (evened count)) label v c (evened count)

      load_is : (z c : ℕ) → ((i : ℕ) → i < job.head.n → t i ≡ true → eqb (at plan i) z ≡ eqb (label (rank t i)) c) → OnTwo x y z
          → (v : ℕ) → v < nowhere → load J (at plan) v z ≡ load_by v c
      load_is z c put o v l =
          load_by_label t (at plan) label job.head.n z c put (off z o) J (sym job.well_formed.n) (first_end s₁) (second_end s₁ (evened count)) g.collected.first g.collected.second v
          ∙ ap (load_on (first_end s₁) (second_end s₁ (evened count)) label v c) (sym all)
          ∙ sym (load_no_dummy (first_end s₁) (second_end s₁ (evened count)) label count (evened count) (omega arith) (omega arith) g.dummy v c l)

      clauses : (v : ℕ) → v < J.f → Clauses J (at plan₀) (at plan) x y v
      clauses v l =
          let in_range : v < nowhere = omega (arith, job.well_formed.f, job.well_formed.ranged.f_high) in
          let shared = shared_by _ (load_by v) mark mark_small (h.halves.at_each_fpga v (omega arith)) in
          let lx = load_is x (1 - mark) put_x (inl refl) v in_range in
          let ly = load_is y mark put_y (inr refl) v in_range in
          halves_of (J.width v) _ _ _ ((sound job.bytes.now job.head job.well_formed).even v)
          (rw (← loads_together J (at plan₀) (at plan) x y moved asked.two v, lx, ly, shared.all) shared)

      totals : (total J (at plan) x ≡ total J (at plan) y) ⊎ (total J (at plan) x ≡ total J (at plan) y + 1)
      totals =
          rw (
            total_by_label t (at plan) label job.head.n x (1 - mark) put_x (off x (inl refl)) J (sym job.well_formed.n),
            total_by_label t (at plan) label job.head.n y mark put_y (off y (inr refl)) J (sym job.well_formed.n),
            ← all,
          )
          (one_more label count (evened count) mark (omega arith) (omega arith) mark_small mark_of_dummy h.halves.level)

      recoloured_in : RecolouredIn job plan₀ plan x y s₀ s₂
      recoloured_in =
          record {
            rule = record { moved = moved; clauses = clauses; totals = totals };
            plan_long = w.long;
            plan_beyond = w.beyond;
            scratch_is_long = h.long ∙ g.collected.long;
            scratch_beyond = h.beyond ∙ g.collected.beyond;
          }

  pub recoloured : (k : ℕ) → k ≡ evened count → (s₂ : List ℕ) → Halved s₁ s₂ k
      → (plan : List ℕ) → WrittenBack plan₀ plan job.head.n x y s₂ (label_for_y s₂ count) job.head.n (place plan₀ x y job.head.n) → RecolouredIn job plan₀ plan x y s₀ s₂
  recoloured k ek s₂ h plan w = recoloured_in s₂ (rw ek at h) plan w
