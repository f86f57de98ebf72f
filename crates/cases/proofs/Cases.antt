-- Cases 4, 6, 7 and 8 of document 01, of every assignment, round and chain, and request 1's odd board: from the rows of the table.
-- Assumes nothing.
use mathlib.Core.Path.{◌≡◌, refl, ap, sym, ◌∙◌}
use mathlib.Core.List.{List, [], ◌∷◌}
use mathlib.Core.Logic.{◌↔◌}
use Prim.Native.Nat.{ℕ, zero, suc, ◌<◌}
use native.Mathlib.Omega.{arith}
use lib.ListN.{replicate, get_or-replicate}
use Rattle.std.specs.List.{Contains}
use Rattle.laws.specs.Sum.{sum}
use Rattle.laws.specs.Row.{at, row}
use Rattle.words.specs.Number.{word}
use Rattle.words.specs.Verdict.{number_of}
use Rattle.job.specs.Job.{nets_at, job_in, wired_in}
use Rattle.job_writer.specs.Write.{job_of}
use Rattle.board.specs.Board.{ends_at, load, total, total_excess, InRange, Legal}
use Rattle.round.specs.Round.{RoundStep, Chain, Finished}
use Rattle.cases.specs.Holds.{verdict_on, After}
use Rattle.cases.specs.Table.{Stop, four, six, results₆, deal_of, seven, start₇, stops₇, eight, start₈, three, request}
use Rattle.cases.proofs.Table.{case_holds}
use Rattle.cases.proofs.Plans.{legal_says, listed_legal}
use Rattle.cases.proofs.Rounds.{results_say, always_says, round_legal, one_finish, only_one_round}
use Rattle.cases.proofs.Chains.{rounds_say, rounds_always}

-- case 4: no assignment exists, with the one wire in use
pub four_none : (a : ℕ → ℕ) → InRange (wired_in four) a → Legal (wired_in four) a → ⊥
four_none a l z = let m = legal_says (wired_in four) [] (case_holds 4).1.1.0 a l z in absurd (omega (arith, m.1))

-- case 6: a round from the deal ends in one of the four plans, each of them may be the end, and every finish makes one round
pub six_every_round : (b : ℕ → ℕ) → RoundStep (job_in six) (at (deal_of six)) b ↔ Contains results₆ (row b (job_in six).n)
six_every_round = results_say six (deal_of six) results₆ (case_holds 6).1.1.1.0

pub six_every_finish : {b : ℕ → ℕ} {k s : ℕ} → Finished (job_in six) (at (deal_of six)) b k s → (k ≡ 1) × (s ≡ 1)
six_every_finish r = (only_one_round six (deal_of six) (case_holds 6).1.1.0 r, r.excess ∙ (case_holds 6).0)

-- case 7: each net ends at both FPGAs
both_ends : (a : ℕ → ℕ) (v x : ℕ) → v < (job_in seven).f → load (job_in seven) a v x ≡ total (job_in seven) a x
unfolding load total ends_at sum word job_of nets_at
both_ends a zero x l = refl
both_ends a (suc zero) x l = refl
both_ends a (suc (suc v)) x l = let k : suc (suc v) < 2 = l in absurd (omega arith)

-- every chain of k rounds has the totals and the excess of the table after k rounds
pub seven_every_chain : {k : ℕ} {b : ℕ → ℕ} → Chain (job_in seven) (at start₇.plan) k b
    → (t : Stop) × After (start₇ ∷ stops₇) k t × (row (total (job_in seven) b) (job_in seven).c ≡ t.totals) × (total_excess (job_in seven) b ≡ t.excess)
seven_every_chain c = rounds_always seven start₇ stops₇ (case_holds 7).0 both_ends c

-- there is a finish of three rounds from excess 8, and every finish is one
pub seven_finish : (b : List ℕ) × Finished (job_in seven) (at start₇.plan) (at b) 3 8
seven_finish = rounds_say seven start₇ stops₇ (case_holds 7).0

settled_after : (k : ℕ) (t : Stop) → After (start₇ ∷ stops₇) k t → t.excess ≡ 0 → k ≡ 3
settled_after zero t q z = absurd (omega (arith, ap (λ (s : Stop). s.excess) q))
settled_after (suc zero) t q z = absurd (omega (arith, ap (λ (s : Stop). s.excess) q))
settled_after (suc (suc zero)) t q z = absurd (omega (arith, ap (λ (s : Stop). s.excess) q))
settled_after (suc (suc (suc zero))) t q z = refl
settled_after (suc (suc (suc (suc k)))) t m z = absurd m

pub seven_every_finish : {b : ℕ → ℕ} {k s : ℕ} → Finished (job_in seven) (at start₇.plan) b k s → (k ≡ 3) × (s ≡ 8)
seven_every_finish {b} {k} {s} r =
    let i = seven_every_chain r.chain in
    (settled_after k i.0 i.1 (sym i.3 ∙ r.legal), r.excess ∙ (case_holds 7).0.1.0.0)

-- case 8: every round leaves 2 and 2 at FPGA 0, and totals 3 and 2; it ends legal, so every finish makes one round
pub eight_every_round : (b : ℕ → ℕ) → RoundStep (job_in eight) (at start₈) b
    → (row (load (job_in eight) b 0) (job_in eight).c ≡ 2 ∷ 2 ∷ []) × (row (total (job_in eight) b) (job_in eight).c ≡ 3 ∷ 2 ∷ []) × Legal (job_in eight) b
eight_every_round b s =
    let l = always_says eight start₈ 0 (2 ∷ 2 ∷ []) (3 ∷ 2 ∷ []) (case_holds 8).1.0 b s in
    (l.0, l.1, round_legal eight start₈ (case_holds 8).0 b s)

pub eight_finish : (b : List ℕ) × Finished (job_in eight) (at start₈) (at b) 1 (total_excess (job_in eight) (at start₈))
eight_finish = one_finish eight start₈ (case_holds 8).0

pub eight_every_finish : {b : ℕ → ℕ} {k s : ℕ} → Finished (job_in eight) (at start₈) b k s → k ≡ 1
eight_every_finish r = only_one_round eight start₈ (case_holds 8).0 r

-- request 1: refused with 12, and yet all three nets on crossbar 0 are within the three wires
pub three_refused_within : (number_of (verdict_on three) ≡ 12) × InRange (wired_in three) (at (replicate 3 0)) × Legal (wired_in three) (at (replicate 3 0))
unfolding word job_of nets_at
three_refused_within =
    let rows = (case_holds (request 1)).1.1 in
    let in_range : (i : ℕ) → i < 3 → at (replicate 3 0) i < 1 = λ i l. omega (arith, get_or-replicate {A = ℕ} 3 i 0 0 l) in
    (rows.0.0, in_range, listed_legal (wired_in three) (replicate 3 0 ∷ []) rows.1.0 (replicate 3 0) (0, omega arith, refl))
