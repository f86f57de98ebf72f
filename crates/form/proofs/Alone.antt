-- A text has one reading at most: that it is the text of these numbers is a plain fact.
-- Assumes nothing.
use mathlib.Core.Path.{◌≡◌, sym, ◌∙◌}
use mathlib.Core.HLevel.{is_prop→PathP}
use mathlib.Core.Logic.{∥∥₁_elim}
use mathlib.Core.List.{List}
use Prim.Native.Nat.{ℕ}
use Rattle.std.proofs.Props.{props}
use Rattle.form.specs.declared.HeadRead.{HeadRead}
use Rattle.form.specs.declared.Formed.{Formed}
use Rattle.form.specs.Form.{nets_text, EndsOf, IsNets}
use Rattle.form.specs.Walk.{WholeAt}
use Rattle.form.proofs.NetLines.{ends_once}

ends_alone : (n : ℕ) (ends : List ℕ) → IsProp (EndsOf n ends)
ends_alone n ends = Prim.hlevel props

same_alone : (t s : List ℕ) → IsProp (t ≡ s)
same_alone t s = Prim.hlevel props

nets_alone : (n : ℕ) (t : List ℕ) → IsProp (IsNets n t)
nets_alone n t p q =
    let e : p.ends ≡ q.ends = ends_once n p.ends q.ends p.of q.of (sym p.is ∙ q.is) in
    λ i. record {
      ends = e i;
      of = is_prop→PathP (λ j. EndsOf n (e j)) (λ j. ends_alone n (e j)) p.of q.of i;
      is = is_prop→PathP (λ j. t ≡ nets_text (e j)) (λ j. same_alone t (nets_text (e j))) p.is q.is i;
    }

ruleset nets_props = (props, nets_alone)

whole_alone : (t : List ℕ) (h : HeadRead) → IsProp (WholeAt t h)
whole_alone t h = Prim.hlevel nets_props

pub known_whole : (formed : Formed) → WholeAt formed.text.now formed.head
known_whole formed = ∥∥₁_elim formed.whole (whole_alone formed.text.now formed.head) (λ w. w)
