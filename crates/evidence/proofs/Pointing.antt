-- What points at nothing. A match knows of its last arm that the refusal is none of those that its other arms took.
-- Assumes nothing.
use mathlib.Core.Path.{◌≡◌, refl, ◌∙◌}
use mathlib.Core.List.{List}
use Prim.Native.Nat.{ℕ}
use Rattle.words.specs.declared.Place.{Place}
use Rattle.words.specs.declared.Place.TheVariants.{Byte, Net, End, Crossbar}
use Rattle.words.specs.declared.Reason.{Reason}
use Rattle.words.specs.declared.Reason.TheVariants as reason
use Rattle.words.specs.declared.Net.{Net as NetNumber}
use Rattle.words.specs.declared.Crossbar.{Crossbar as CrossbarNumber}
use Rattle.words.specs.declared.Refusal.{Refusal}
use Rattle.words.specs.Verdict.{at_net, at_crossbar}
use Rattle.evidence.specs.declared.Fault.{Fault}
use Rattle.evidence.specs.Evidence.{nothing, job_fault_at, job_fault, sheet_fault_at, sheet_fault}

-- no refusal of reason k that has the place of a net's number
abbrev pub NoEnd : Reason → Reason → Place → Type 0
NoEnd k r place = r ≡ k → (i : NetNumber) (at : ℕ) → place ≡ End i at → ⊥

job_at : (job : List ℕ) (place : Place) (r : Reason) → NoEnd reason.FirstEnd r place → NoEnd reason.SecondEnd r place → NoEnd reason.SameEnd r place → job_fault_at job place r ≡ nothing
job_at job (End i at) reason.FirstEnd a b c = absurd (a refl i at refl)
job_at job (End i at) reason.SecondEnd a b c = absurd (b refl i at refl)
job_at job (End i at) reason.SameEnd a b c = absurd (c refl i at refl)
job_at job _ _ a b c = refl

sheet_at : (job : List ℕ) (place : Place) (r : Reason) → (r ≡ reason.SheetHead → (p : ℕ) → place ≡ Byte p → ⊥) → (r ≡ reason.SheetCrossbar → (i : NetNumber) → place ≡ Net i → ⊥)
    → (r ≡ reason.WrittenTotal → (x : CrossbarNumber) → place ≡ Crossbar x → ⊥) → sheet_fault_at job place r ≡ nothing
sheet_at job (Byte p) reason.SheetHead a b c = absurd (a refl p refl)
sheet_at job (Net i) reason.SheetCrossbar a b c = absurd (b refl i refl)
sheet_at job (Crossbar x) reason.WrittenTotal a b c = absurd (c refl x refl)
sheet_at job _ _ a b c = refl

-- ---- by the place alone

-- a stretch by the place of a refusal: its byte, its net, a number of a net or its crossbar
abbrev by_place : (ℕ → Fault) → (ℕ → Fault) → (ℕ → ℕ → Fault) → (ℕ → Fault) → Place → Fault
by_place byte net end crossbar (Byte p) = byte p
by_place byte net end crossbar (Net i) = net i.0
by_place byte net end crossbar (End i at) = end i.0 at
by_place byte net end crossbar (Crossbar x) = crossbar x.0
by_place byte net end crossbar _ = nothing

elsewhere : (byte net : ℕ → Fault) (end : ℕ → ℕ → Fault) (crossbar : ℕ → Fault) (place : Place)
    → ((p : ℕ) → place ≡ Byte p → byte p ≡ nothing) → ((i : NetNumber) → place ≡ Net i → net i.0 ≡ nothing)
    → ((i : NetNumber) (at : ℕ) → place ≡ End i at → end i.0 at ≡ nothing)
    → ((x : CrossbarNumber) → place ≡ Crossbar x → crossbar x.0 ≡ nothing) → by_place byte net end crossbar place ≡ nothing
elsewhere byte net end crossbar (Byte p) b n e c = b p refl
elsewhere byte net end crossbar (Net i) b n e c = n i refl
elsewhere byte net end crossbar (End i at) b n e c = e i at refl
elsewhere byte net end crossbar (Crossbar x) b n e c = c x refl
elsewhere byte net end crossbar _ b n e c = refl

-- what the sheet's refusal of reason k points at
sheet_by_place : (job : List ℕ) (k : Reason) (place : Place)
    → sheet_fault_at job place k
    ≡ by_place (λ p. sheet_fault_at job (Byte p) k) (λ i. sheet_fault_at job (at_net i) k) (λ _ _. nothing) (λ x. sheet_fault_at job (at_crossbar x) k) place
sheet_by_place job k (Byte p) = refl
sheet_by_place job k (Net i) = refl
sheet_by_place job k (Crossbar x) = refl
sheet_by_place job k _ = refl

module _ (job : List ℕ) (r : Refusal) where
  pub job_otherwise : NoEnd reason.FirstEnd r.reason r.place → NoEnd reason.SecondEnd r.reason r.place → NoEnd reason.SameEnd r.reason r.place → job_fault job r ≡ nothing
  unfolding job_fault
  job_otherwise = job_at job r.place r.reason

  -- no number of a net
  pub job_elsewhere : ((i : NetNumber) (at : ℕ) → r.place ≡ End i at → ⊥) → job_fault job r ≡ nothing
  job_elsewhere h = job_otherwise (λ _. h) (λ _. h) (λ _. h)

  pub sheet_otherwise : (r.reason ≡ reason.SheetHead → (p : ℕ) → r.place ≡ Byte p → ⊥) → (r.reason ≡ reason.SheetCrossbar → (i : NetNumber) → r.place ≡ Net i → ⊥)
      → (r.reason ≡ reason.WrittenTotal → (x : CrossbarNumber) → r.place ≡ Crossbar x → ⊥) → sheet_fault job r ≡ nothing
  unfolding sheet_fault
  sheet_otherwise = sheet_at job r.place r.reason

  -- no byte, net or crossbar
  pub sheet_elsewhere : ((p : ℕ) → r.place ≡ Byte p → ⊥) → ((i : NetNumber) → r.place ≡ Net i → ⊥) → ((x : CrossbarNumber) → r.place ≡ Crossbar x → ⊥)
      → sheet_fault job r ≡ nothing
  unfolding sheet_fault
  sheet_elsewhere b n c =
      sheet_by_place job r.reason r.place
      ∙ elsewhere _ _ _ _ r.place (λ p e. absurd (b p e)) (λ i e. absurd (n i e)) (λ _ _ _. refl) (λ x e. absurd (c x e))
