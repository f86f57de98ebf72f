-- The walks over the lines of the nets, one line more at a time.
-- Assumes nothing.
use mathlib.Core.Path.{◌≡◌, refl, sym, ap, ◌∙◌}
use mathlib.Core.List.{List, [], ◌∷◌, ◌++◌}
use Prim.Native.Nat.{ℕ, suc, ◌+◌, ◌*◌, ◌<◌}
use native.Mathlib.Omega.{arith}
use lib.ListN.{length, take, drop}
use lib.Seq.{take-suc, length-take-le, append_snoc}
use Rattle.words.specs.declared.Refusal.{Refusal}
use Rattle.std.specs.Prelude.{Result, Ok, Err, IsOk}
use Rattle.words.specs.Number.{bytes}
use Rattle.words.specs.Lent.{onto}
use Rattle.words.proofs.Bytes.{write_more}
use Rattle.job.specs.Job.{head_long}
use Rattle.job.specs.Check.{net_verdict, nets_verdict}
use Rattle.job.proofs.Nets.{nets_none, nets_pass, nets_stop}
use Rattle.job_writer.specs.Write.{first_of, second_of, written_length, head_of, job_of}
use Rattle.form.specs.declared.Read.{Read}
use Rattle.form.specs.declared.Broken.{Broken}
use Rattle.form.specs.declared.HeadRead.{HeadRead}
use Rattle.form.specs.Form.{nets_text, EndsOf}
use Rattle.form.specs.Walk.{NetAt, WholeAt}
use Rattle.form.proofs.ByNumber.{line_at, line_stands}
use Rattle.text_reader.specs.ReadText.{OfEnds}

-- ---- the walk that checks: the lines before net i are read, and their nets pass

abbrev pub Checked : List ℕ → HeadRead → ℕ → ℕ → Type 0
Checked t h at i = OfEnds h.n (drop h.start t) (λ ends. (drop at t ≡ nets_text (drop (2 * i) ends)) × (nets_verdict h.f head_long (first_of ends) (second_of ends) i ≡ Ok tt))

pub line_is : (t : List ℕ) (at : ℕ) (r : Result (Read (ℕ × ℕ)) Broken) (x : Read (ℕ × ℕ)) → NetAt t at r → r ≡ Ok x → NetAt t at (Ok x)
line_is t at r x line e = rw e at line

-- its line is there
line_read : (n : ℕ) (ends : List ℕ) → EndsOf n ends → (t : List ℕ) (at i : ℕ) → i < n → drop at t ≡ nets_text (drop (2 * i) ends) → (r : Result (Read (ℕ × ℕ)) Broken) → NetAt t at r → IsOk r
line_read n ends of t at i inside e (Ok r) line = refl
line_read n ends of t at i inside e (Err b) line = absurd (line_stands n ends of t at i inside e b line)

module _ (t : List ℕ) (h : HeadRead) where
  pub none_checked : Checked t h h.start 0
  none_checked ends of e = (e, nets_none h.f head_long (first_of ends) (second_of ends))

  module _ (at i : ℕ) (inside : i < h.n) (so_far : Checked t h at i) where
    pub checked_line : WholeAt t h → (r : Result (Read (ℕ × ℕ)) Broken) → NetAt t at r → IsOk r
    checked_line w = let n = w.nets in line_read h.n n.ends n.of t at i inside (so_far n.ends n.of n.is).0

    module _ (r : Read (ℕ × ℕ)) (line : NetAt t at (Ok r)) where
      pub one_checked : net_verdict h.f head_long i r.value.0 r.value.1 ≡ Ok tt → Checked t h r.end (i + 1)
      one_checked done ends of e =
          let s = so_far ends of e in let z = line_at h.n ends of t at i inside s.0 r line in
          (z.2, nets_pass h.f head_long (first_of ends) (second_of ends) i r.value.0 r.value.1 z.0 z.1 s.1 done)

      pub one_refused : (q : Refusal) → net_verdict h.f head_long i r.value.0 r.value.1 ≡ Err q
          → OfEnds h.n (drop h.start t) (λ ends. Err q ≡ nets_verdict h.f head_long (first_of ends) (second_of ends) h.n)
      one_refused q refused ends of e =
          let s = so_far ends of e in let z = line_at h.n ends of t at i inside s.0 r line in
          sym (nets_stop h.f head_long (first_of ends) (second_of ends) i r.value.0 r.value.1 z.0 z.1 s.1 h.n q inside refused)

-- ---- the walk that writes: the nets before net i stand in the room

abbrev pub Wrote : List ℕ → HeadRead → List ℕ → List ℕ → ℕ → ℕ → Type 0
Wrote t h room₀ room at i =
    OfEnds h.n (drop h.start t) (λ ends. (drop at t ≡ nets_text (drop (2 * i) ends)) × (room ≡ onto (bytes (3 ∷ h.f ∷ h.c ∷ h.m ∷ h.n ∷ take (2 * i) ends)) room₀))

two_more : (n i : ℕ) (ends : List ℕ) → length ends ≡ 2 * n → i < n → take (2 * (i + 1)) ends ≡ take (2 * i) ends ++ (first_of ends i ∷ second_of ends i ∷ [])
two_more n i ends long l =
    let second : 2 * (i + 1) ≡ suc (2 * i + 1) = omega arith in
    let first : 2 * i + 1 ≡ suc (2 * i) = omega arith in
    let more : take (2 * i + 1) ends ≡ take (2 * i) ends ++ (first_of ends i ∷ []) = ap (λ (k : ℕ). take k ends) first ∙ take-suc ends (2 * i) 0 (omega (arith, long)) in
    ap (λ (k : ℕ). take k ends) second ∙ take-suc ends (2 * i + 1) 0 (omega (arith, long)) ∙ ap (λ (p : List ℕ). p ++ (second_of ends i ∷ [])) more ∙ append_snoc (take (2 * i) ends) (first_of ends i) (second_of ends i ∷ [])

module _ (t : List ℕ) (h : HeadRead) (room₀ room : List ℕ) where
  pub none_wrote : room ≡ onto (head_of h.f h.c h.m h.n) room₀ → Wrote t h room₀ room h.start 0
  none_wrote q ends of e = (e, q)

  module _ (at i : ℕ) (inside : i < h.n) (so_far : Wrote t h room₀ room at i) where
    pub wrote_line : WholeAt t h → (r : Result (Read (ℕ × ℕ)) Broken) → NetAt t at r → IsOk r
    wrote_line w = let n = w.nets in line_read h.n n.ends n.of t at i inside (so_far n.ends n.of n.is).0

    pub one_wrote : (new : List ℕ) (r : Read (ℕ × ℕ)) → NetAt t at (Ok r)
        → new ≡ take (written_length i) room ++ onto (bytes (r.value.0 ∷ r.value.1 ∷ [])) (drop (written_length i) room) → Wrote t h room₀ new r.end (i + 1)
    one_wrote new r line put ends of e =
        let s = so_far ends of e in let z = line_at h.n ends of t at i inside s.0 r line in (
          z.2,
          write_more (3 ∷ h.f ∷ h.c ∷ h.m ∷ h.n ∷ take (2 * i) ends) (r.value.0 ∷ r.value.1 ∷ []) room₀ room new (written_length i) s.1
              (omega (arith, length-take-le (2 * i) ends (omega (arith, of.long)))) put
              ∙ ap (λ (p : List ℕ). onto (bytes (3 ∷ h.f ∷ h.c ∷ h.m ∷ h.n ∷ p)) room₀)
              (ap (λ (v : ℕ). take (2 * i) ends ++ (v ∷ r.value.1 ∷ [])) z.0 ∙ ap (λ (w : ℕ). take (2 * i) ends ++ (first_of ends i ∷ w ∷ [])) z.1 ∙ sym (two_more h.n i ends of.long inside)),
        )

  pub all_wrote : (at i : ℕ) → i ≡ h.n → Wrote t h room₀ room at i → OfEnds h.n (drop h.start t) (λ ends. room ≡ onto (job_of h.f h.c h.m h.n ends) room₀)
  unfolding job_of
  all_wrote at i end so_far ends of e = (so_far ends of e).1 ∙ ap (λ (k : ℕ). onto (bytes (3 ∷ h.f ∷ h.c ∷ h.m ∷ h.n ∷ take (2 * k) ends)) room₀) end
