-- `form::number::number` meets its contract.
use mathlib.Core.Path.{◌≡◌, sym, ap, ◌∙◌}
use Prim.Native.Nat.{◌+◌}
use native.Mathlib.Omega.{arith}
use lib.ListN.{length, length-drop}
use Rattle.form.proofs.Numbers.{rest_is, digit_rest, number_rest, stuck_rest}
use Rattle.form.proofs.number.number.Goals as goal
use Rattle.form.proofs.number.number.Goals.{else-i-gt0-via-then-i-gt0+else-b-after, else-i-gt0-via-else-i-gt0}

pub returns-then-b-after : goal.returns-then-b-after
returns-then-b-after c = let l = c.loop-i in
    number_rest c.args.text.now c.args.at l.i _ c.requires l.invariant.0 l.invariant.1 c.loop-i-test.true _ c.if-i-gt0.true c.if-b-after.true

pub returns-then-not-digit_fits : goal.returns-then-not-digit_fits
returns-then-not-digit_fits c = let l = c.loop-i in
    stuck_rest c.args.text.now c.args.at l.i _ c.requires l.invariant.0 l.invariant.1 _ l.auto.i-end (λ _. sym c.digit_fits.ensures ∙ c.if-not-digit_fits.true)
    (λ _ positive e. elim c.else-i-gt0.branch [ else-i-gt0-via-then-i-gt0+else-b-after w ↦ w.if-b-after.false e | else-i-gt0-via-else-i-gt0 w ↦ absurd (omega arith) ])

pub overflow_mul-value : goal.overflow_mul-value
overflow_mul-value c = let l = c.loop-i in
    omega (arith, (digit_rest c.args.text.now c.args.at l.i _ c.requires l.invariant.0 l.invariant.1 c.loop-i-test.true (sym c.digit_fits.ensures ∙ c.if-not-digit_fits.false)).1)

pub overflow_sub-value : goal.overflow_sub-value
overflow_sub-value c = let l = c.loop-i in
    (digit_rest c.args.text.now c.args.at l.i _ c.requires l.invariant.0 l.invariant.1 c.loop-i-test.true (sym c.digit_fits.ensures ∙ c.if-not-digit_fits.false)).0

pub loop-i-preserved : goal.loop-i-preserved
loop-i-preserved c = let l = c.loop-i in
    let next = digit_rest c.args.text.now c.args.at l.i _ c.requires l.invariant.0 l.invariant.1 c.loop-i-test.true (sym c.digit_fits.ensures ∙ c.if-not-digit_fits.false) in
    (next.1, next.2)

pub returns : goal.returns
returns c = let l = c.loop-i in
    let end : c.args.at + l.i ≡ length c.args.text.now = omega (arith, l.auto.i-end, ap length (rest_is c.args.text.now c.args.at), length-drop c.args.at c.args.text.now) in
    rw end at (stuck_rest c.args.text.now c.args.at l.i _ c.requires l.invariant.0 l.invariant.1 c.args.after l.auto.i-end (λ h. absurd (omega arith)) (λ h _ _. absurd (omega arith)))
