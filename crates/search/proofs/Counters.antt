-- The search by counters: the loads of all FPGAs at one crossbar, then those of one FPGA at all crossbars.
-- Assumes nothing.
use mathlib.Core.Path.{◌≡◌, ap, sym, ◌∙◌}
use mathlib.Core.Bool.{Bool}
use mathlib.Core.List.{List}
use Prim.Native.Nat.{ℕ, ◌+◌, ◌≤◌, ◌<◌}
use native.Mathlib.Omega.{arith}
use lib.Dec.{ltb}
use Rattle.laws.specs.Lowest.{first_where}
use Rattle.laws.specs.Row.{at}
use Rattle.laws.specs.Count.{Counted}
use Rattle.laws.proofs.FirstWhere.{first_where_at_most, first_where_same, first_where_within}
use Rattle.job.specs.declared.Job.{Job}
use Rattle.job.specs.Board.{board_of}
use Rattle.board.specs.Board.{load}
use Rattle.std.specs.Prelude.{Option, None, Some}
use Rattle.std.specs.Option.{unwrap_or, option_or}
use Rattle.search.specs.Search.{below, over_at, room_at, fpga_of, crowded_of, room_of, over, search_of}
use Rattle.search.specs.Columns.{fpga_below, fpga_at}
use Rattle.search.proofs.Columns.{fpga_below_none, fpga_below_more, fpga_below_all, fpga_below_at_most}
use Rattle.search.proofs.Below.{below_none, unwrap_below, or_below, below_is, below_is_none}
use Rattle.search.proofs.Answers.{fpga-at-most, search-none, search-some, crowded_low}

module _ (job : Job) (a : ℕ → ℕ) where
  -- the lowest FPGA: none before the first crossbar
  pub lowest_starts : None ≡ below job.head.f (fpga_below (board_of job) a 0)
  lowest_starts = sym (below_none job.head.f (fpga_below (board_of job) a 0) (omega (arith, job.well_formed.f, fpga_below_none (board_of job) a)))

  module _ (x : ℕ) where
    lowest_at_most : fpga_below (board_of job) a x ≤ job.head.f
    lowest_at_most = omega (arith, job.well_formed.f, fpga_below_at_most (board_of job) a x)

    pub lowest_fits : fpga_below (board_of job) a x ≤ 256
    lowest_fits = omega (arith, lowest_at_most, job.well_formed.ranged.f_high)

    module _ {lowest : Option ℕ} (e : lowest ≡ below job.head.f (fpga_below (board_of job) a x)) where
      pub lowest_end : unwrap_or lowest job.head.f ≡ fpga_below (board_of job) a x
      lowest_end = rw e (unwrap_below job.head.f (fpga_below (board_of job) a x) lowest_at_most)

      -- after the last crossbar the search's
      pub lowest_all : x ≡ job.head.c → lowest ≡ below job.head.f (fpga_of (board_of job) a)
      lowest_all ex = e ∙ ap (below job.head.f) (ap (fpga_below (board_of job) a) (ex ∙ job.well_formed.c) ∙ fpga_below_all (board_of job) a)

      -- one crossbar more: the first below the lowest so far whose counter is above its width
      first_next : {count : List ℕ} → Counted count 256 (λ v. load (board_of job) a v x)
          → first_where (λ v. ltb ((board_of job).width v) (at count v)) (fpga_below (board_of job) a x) ≡ fpga_below (board_of job) a (x + 1)
      unfolding fpga_at over_at
      first_next {count} k =
          let low = fpga_below (board_of job) a x in
          first_where_same (λ v. ltb ((board_of job).width v) (at count v)) (λ v. over_at (board_of job) a v x) low (λ v l. rw (k.count v (omega (arith, lowest_fits))))
          ∙ first_where_within (λ v. over_at (board_of job) a v x) low (board_of job).f (omega (arith, lowest_at_most, job.well_formed.f))
          ∙ sym (fpga_below_more (board_of job) a x)

      pub lowest_next : (end : ℕ) → end ≡ unwrap_or lowest job.head.f → {count : List ℕ} → Counted count 256 (λ v. load (board_of job) a v x)
          → (first : Option ℕ) → first ≡ below end (first_where (λ v. ltb ((board_of job).width v) (at count v)) end)
          → option_or first lowest ≡ below job.head.f (fpga_below (board_of job) a (x + 1))
      lowest_next end ee {count} k first ef =
          let low : end ≡ fpga_below (board_of job) a x = ee ∙ lowest_end in
          let less : fpga_below (board_of job) a (x + 1) ≤ fpga_below (board_of job) a x =
          omega (arith, first_next k, first_where_at_most (λ v. ltb ((board_of job).width v) (at count v)) (fpga_below (board_of job) a x)) in
          rw (ef, low, first_next k, e) (or_below job.head.f (fpga_below (board_of job) a x) (fpga_below (board_of job) a (x + 1)) lowest_at_most less)

  -- no FPGA has a load above its width
  pub search_settled : None ≡ below job.head.f (fpga_of (board_of job) a) → None ≡ search_of (board_of job) a
  search_settled e =
      let l = below_is_none job.head.f (fpga_of (board_of job) a) e in
      sym (search-none (board_of job) a (omega (arith, job.well_formed.f, fpga-at-most (board_of job) a)))

  pub fpga_fits : (v : ℕ) → Some v ≡ below job.head.f (fpga_of (board_of job) a) → v < 65536
  fpga_fits v e = omega (arith, below_is job.head.f (fpga_of (board_of job) a) v e, job.well_formed.ranged.f_high)

  -- the three, by the counters of FPGA v and its width m
  module _ {loads : List ℕ} (v m : ℕ) (k : Counted loads 128 (load (board_of job) a v)) (w : m ≡ (board_of job).width v) where
    abbrev pub above : ℕ → Bool
    above x = ltb m (at loads x)

    abbrev pub under : ℕ → Bool
    under x = ltb (at loads x) m

    crowded_counted : first_where above job.head.c ≡ crowded_of (board_of job) a v
    unfolding crowded_of over_at
    crowded_counted =
        first_where_same above (over_at (board_of job) a v) job.head.c (λ x l. rw (k.count x (omega (arith, job.well_formed.ranged.c_high)), w))
        ∙ ap (first_where (over_at (board_of job) a v)) job.well_formed.c

    room_counted : first_where under job.head.c ≡ room_of (board_of job) a v
    unfolding room_of room_at
    room_counted =
        first_where_same under (room_at (board_of job) a v) job.head.c (λ x l. rw (k.count x (omega (arith, job.well_formed.ranged.c_high)), w))
        ∙ ap (first_where (room_at (board_of job) a v)) job.well_formed.c

    module _ (found : Some v ≡ below job.head.f (fpga_of (board_of job) a)) where
      -- at FPGA v some load is above
      pub crowded_always : None ≡ below job.head.c (first_where above job.head.c) → ⊥
      crowded_always e =
          let p = below_is job.head.f (fpga_of (board_of job) a) v found in
          omega (arith, below_is_none job.head.c (first_where above job.head.c) e, crowded_counted, job.well_formed.c, crowded_low (board_of job) a v p.0 (omega (arith, p.1, job.well_formed.f)))

      pub search_over : (A B : ℕ) → Some A ≡ below job.head.c (first_where above job.head.c) → B ≡ first_where under job.head.c → over v A B ≡ search_of (board_of job) a
      search_over A B eA eB =
          let p = below_is job.head.f (fpga_of (board_of job) a) v found in
          rw ((below_is job.head.c (first_where above job.head.c) A eA).0 ∙ crowded_counted, eB ∙ room_counted, p.0)
          (sym (search-some (board_of job) a (omega (arith, p, job.well_formed.f))))
