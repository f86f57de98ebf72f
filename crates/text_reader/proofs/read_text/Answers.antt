-- `text_reader::read_text` meets its contract.
use borrow.Author.Rules.{rules}
use mathlib.Core.Path.{refl, sym, ap, ◌∙◌}
use mathlib.Core.List.{List}
use Prim.Native.Nat.{ℕ}
use Rattle.std.specs.Borrow.{Bor}
use Rattle.form.proofs.Alone.{known_whole}
use Rattle.form.proofs.Whole.{whole_in_form, whole_is}
use Rattle.text_reader.specs.ReadText.{ReadText}
use Rattle.text_reader.proofs.Stages.{read_room}
use Rattle.text_reader.proofs.read_text.Goals as goal

pub returns-in_err-formed : goal.returns-in_err-formed
returns-in_err-formed c = ReadText.broken _ c.in_err-formed.ensures.form (search rules) refl

pub returns-in_err-check_values : goal.returns-in_err-check_values
returns-in_err-check_values c = let w = known_whole c.in_ok-formed.formed in
    let told = sym (c.check_values.ensures w.nets.ends w.nets.of w.nets.is) ∙ c.in_err-check_values.was in
    ReadText.whole _ _ _ _ w.nets.ends (whole_in_form _ _ w) (ap (λ (b : Bor (List ℕ)). b.now) (sym c.in_ok-formed.ensures.text) ∙ whole_is _ _ w) (rw told (search rules)) (rw told)

pub put_values-requires : goal.put_values-requires
put_values-requires c = let w = known_whole c.in_ok-formed.formed in
    read_room _ _ _ _ w.nets.ends _ (sym (c.check_values.ensures w.nets.ends w.nets.of w.nets.is) ∙ c.in_ok-check_values.was)

pub returns : goal.returns
returns c = let w = known_whole c.in_ok-formed.formed in
    let told = sym (c.check_values.ensures w.nets.ends w.nets.of w.nets.is) ∙ c.in_ok-check_values.was in
    ReadText.whole _ _ _ _ w.nets.ends (whole_in_form _ _ w) (ap (λ (b : Bor (List ℕ)). b.now) (sym c.in_ok-formed.ensures.text) ∙ whole_is _ _ w) (rw (told, c.written_length.ensures))
    (rw told (c.put_values.ensures w.nets.ends w.nets.of w.nets.is))
