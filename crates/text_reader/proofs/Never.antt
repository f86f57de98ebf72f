-- What a text is never refused with: 1, 2 and 8 speak of the bytes of a job file.
-- Assumes nothing.
use mathlib.Core.Path.{◌≡◌, refl, sym, subst}
use mathlib.Core.Bool.{Bool, false, ◌||◌}
use mathlib.Core.List.{List}
use Prim.Native.Nat.{ℕ}
use lib.Dec.{eqb}
use lib.ListN.{length}
use Rattle.words.specs.declared.Refusal.{Refusal}
use Rattle.words.specs.Verdict.{Verdict, number_for, answer}
use Rattle.std.specs.Prelude.{Ok, Err}
use Rattle.words.specs.declared.Reason.TheVariants as reason
use Rattle.words.proofs.Always.{Always, always_if, always_then, always_first}
use Rattle.job.specs.Check.{ranges_verdict, net_verdict, nets_verdict}
use Rattle.job_writer.specs.Write.{written_length}
use Rattle.form.specs.Breaks.{BreaksAs}
use Rattle.text_reader.specs.ReadText.{read_verdict, ReadText}

-- a refusal of a job file's length or count
abbrev pub of_file : ℕ → Bool
of_file k = eqb k 1 || (eqb k 2 || eqb k 8)

abbrev Never : Refusal → Type 0
Never r = of_file (number_for r.reason) ≡ false

net_never : (f start i v w : ℕ) → Always Never (net_verdict f start i v w)
unfolding net_verdict
net_never f start i v w = always_then _ _ (always_if _ reason.FirstEnd _ (λ _. refl)) (λ _. always_then _ _ (always_if _ reason.SecondEnd _ (λ _. refl)) (λ _. always_if _ reason.SameEnd _ (λ _. refl)))

ranges_never : (f c m n : ℕ) → Always Never (ranges_verdict f c m n)
unfolding ranges_verdict
ranges_never f c m n =
    always_then _ _ (always_if _ reason.FpgaCount _ (λ _. refl)) (λ _. always_then _ _ (always_if _ reason.CrossbarCount _ (λ _. refl)) (λ _. always_then _ _ (always_if _ reason.WireCount _ (λ _. refl)) (λ _.
    always_then _ _ (always_if _ reason.LoneWire _ (λ _. refl)) (λ _. always_if _ reason.NetCount _ (λ _. refl)))))

values_never : (f c m n : ℕ) (ends : List ℕ) (room : ℕ) → Always Never (read_verdict f c m n ends room)
unfolding read_verdict nets_verdict
values_never f c m n ends room =
    always_then _ _ (ranges_never f c m n) (λ _. always_then _ _ (always_first _ n (λ i _. net_never f _ i _ _)) (λ _. always_if _ reason.RoomShort _ (λ _. refl)))

breaks_never : (t : List ℕ) (v : Verdict) → BreaksAs t v → Always Never v
breaks_never t v (BreaksAs.breaks k longest none e) = subst (Always Never) (sym e) (record { holds = refl })
breaks_never t v (BreaksAs.follows k longest is l e) = subst (Always Never) (sym e) (record { holds = refl })

by_answer : (v : Verdict) (q : Refusal) (long : ℕ) → Err q ≡ answer v long → Always Never v → Never q
by_answer (Ok _) q long e h = cc
by_answer (Err r) q long e h = let same : q ≡ r = cc in rw same h.holds

pub read_never : (t room new : List ℕ) (q : Refusal) → ReadText t room new (Err q) → of_file (number_for q.reason) ≡ false
read_never t room new q (ReadText.broken v breaks e same) = by_answer v q 0 e (breaks_never t v breaks)
read_never t room new q (ReadText.whole f c m n ends form is e wrote) = by_answer _ q (written_length n) e (values_never f c m n ends (length room))
