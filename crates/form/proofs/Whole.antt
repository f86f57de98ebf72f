-- The three parts of a text together: its board, the count of its nets, their lines.
-- Assumes nothing.
use mathlib.Core.Path.{◌≡◌, refl, sym, ap, subst, ◌∙◌}
use mathlib.Core.Bool.{Bool, true, false}
use mathlib.Core.List.{List, ◌++◌, append_assoc}
use Prim.Native.Nat.{ℕ, ◌-◌, ◌≤◌, ◌<◌}
use native.Mathlib.Omega.{arith}
use lib.ListN.{length, take, drop, length-drop, take-append-drop}
use lib.Seq.{take_all}
use Rattle.std.specs.Prelude.{Ok, Err}
use Rattle.words.specs.declared.Reason.TheVariants as reason
use Rattle.form.specs.declared.Read.{Read}
use Rattle.form.specs.declared.Broken.{Broken}
use Rattle.form.specs.declared.Board.{Board}
use Rattle.form.specs.declared.HeadRead.{HeadRead}
use Rattle.form.specs.Form.{newline, board_line, nets_word, board_text, count_text, nets_text, text_of, InForm, IsText, IsNets}
use Rattle.form.specs.Breaks.{BreaksAs}
use Rattle.form.specs.Walk.{Stops, IsCounted, CountAt, BoardAt, NetsAt, WalkAt, WholeAt}
use Rattle.form.specs.Answer.{refused_at, FormedBy}
use Rattle.form.proofs.Stopping.{From, Goes, goes_then, goes_stuck, goes_ends}
use Rattle.form.proofs.Digits.{number_once}
use Rattle.form.proofs.Heads.{strip, board_then, count_then, bytes_more}

-- one board and one rest; one count and one rest
pub board_once : (f c m f' c' m' : ℕ) (s u : List ℕ) → board_text f c m ++ s ≡ board_text f' c' m' ++ u → (f ≡ f') × (c ≡ c') × (m ≡ m') × (s ≡ u)
board_once f c m f' c' m' s u e =
    let first = number_once newline refl f f' _ _ (strip board_line _ _ (sym (board_then f' c' m' u) ∙ sym e ∙ board_then f c m s)) in
    let second = number_once newline refl c c' _ _ first.1 in
    let third = number_once newline refl m m' _ _ second.1 in
    (first.0, second.0, third.0, third.1)

pub count_once : (n n' : ℕ) (s u : List ℕ) → count_text n ++ s ≡ count_text n' ++ u → (n ≡ n') × (s ≡ u)
count_once n n' s u e = number_once newline refl n n' _ _ (strip nets_word _ _ (sym (count_then n' u) ∙ sym e ∙ count_then n s))

-- behind the board comes the count, behind the count the lines
module _ (t : List ℕ) where
  pub board_from : (f c m k : ℕ) → f < 65536 → c < 65536 → m < 65536 → k ≤ length t → take k t ≡ board_text f c m → From IsText t k IsCounted
  unfolding text_of
  board_from f c m k fs cs ms within e =
      record {
        within = within;
        forth = λ s h. let z = board_once f c m h.f h.c h.m s _ (sym (same s) ∙ h.is) in let i = h.in_form in
            record { n = h.n; small = i.n_small; s = nets_text h.ends; is = z.3; nets = record { ends = h.ends; of = i.nets; is = refl } };
        back = λ s h. record {
          f = f;
          c = c;
          m = m;
          n = h.n;
          ends = h.nets.ends;
          in_form = record { f_small = fs; c_small = cs; m_small = ms; n_small = h.small; nets = h.nets.of };
          is = same s ∙ ap (λ (p : List ℕ). board_text f c m ++ p) (h.is ∙ ap (λ (p : List ℕ). count_text h.n ++ p) h.nets.is);
        };
      }
    where
      same : (s : List ℕ) → take k t ++ s ≡ board_text f c m ++ s
      same s = ap (λ (p : List ℕ). p ++ s) e

  pub count_from : (n k : ℕ) → n < 65536 → k ≤ length t → take k t ≡ count_text n → From IsCounted t k (IsNets n)
  count_from n k ns within e =
      record {
        within = within;
        forth = λ s h. let z = count_once n h.n s h.s (sym (same s) ∙ h.is) in subst (IsNets n) (sym z.1) (subst (λ (i : ℕ). IsNets i h.s) (sym z.0) h.nets);
        back = λ s h. record { n = n; small = ns; s = s; is = same s; nets = h };
      }
    where
      same : (s : List ℕ) → take k t ++ s ≡ count_text n ++ s
      same s = ap (λ (p : List ℕ). p ++ s) e

-- ---- a walk that stops, and one that ends

-- what stops from byte 0 on stops there
from_front : (L : List ℕ → Type 0) (t : List ℕ) (k : ℕ) (w : Bool) → Stops L (drop 0 t) (k - 0) w → Stops L t k w
from_front L t k w s = let z : k - 0 ≡ k = omega arith in rw z at s

module _ (t : List ℕ) where
  pub in_board : (b : Broken) → BoardAt t (Err b) → WalkAt t (Err b)
  in_board b at = from_front IsText t b.0 false at.breaks

  module _ (b : Read Board) (at_b : BoardAt t (Ok b)) where
    at_count : Goes IsText t 0 b.end IsCounted
    at_count =
        record {
          past = at_b.past;
          within = at_b.within;
          from = board_from (drop 0 t) b.value.f b.value.c b.value.m (b.end - 0) at_b.bytes.f_small at_b.bytes.c_small at_b.bytes.m_small (omega (arith, at_b.within)) at_b.bytes.is;
        }

    pub in_count : (k : Broken) → CountAt t b.end (Err k) → WalkAt t (Err k)
    in_count k at = from_front IsText t k.0 false (goes_stuck IsText IsCounted t 0 b.end at_count k at).breaks

    module _ (n : Read ℕ) (at_n : CountAt t b.end (Ok n)) where
      at_nets : Goes IsText t 0 n.end (IsNets n.value)
      at_nets =
          goes_then IsText IsCounted t 0 b.end at_count (IsNets n.value) n.end
          (record {
            past = at_n.past;
            within = at_n.within;
            from = count_from (drop b.end t) n.value (n.end - b.end) at_n.bytes.small (omega (arith, at_n.within, length-drop b.end t)) at_n.bytes.is;
          })

      pub in_nets : (k : Broken) → NetsAt n.value t n.end (Err k) → WalkAt t (Err k)
      in_nets k at = from_front IsText t k.0 false (goes_stuck IsText (IsNets n.value) t 0 n.end at_nets k at).breaks

      pub past_nets : (end : ℕ) → NetsAt n.value t n.end (Ok end)
          → WalkAt t (Ok (record { value = record { f = b.value.f; c = b.value.c; m = b.value.m; n = n.value; start = n.end }; end = end }))
      past_nets end at =
          record {
            stops = from_front IsText t end true (goes_ends IsText (IsNets n.value) t 0 n.end at_nets end at.past at.stops);
            whole = λ none. record {
              f_small = at_b.bytes.f_small;
              c_small = at_b.bytes.c_small;
              m_small = at_b.bytes.m_small;
              n_small = at_n.bytes.small;
              within = at_n.within;
              head = front (bytes_more t 0 b.end n.end _ _ at_b.past at_n.past at_b.bytes.is at_n.bytes.is);
              nets = subst (IsNets n.value) (take_all (end - n.end) (drop n.end t) (omega (arith, none, length-drop n.end t))) at.stops.ends;
            };
          }
        where
          front : {s : List ℕ} → take (n.end - 0) (drop 0 t) ≡ s → take n.end t ≡ s
          front e = let z : n.end - 0 ≡ n.end = omega arith in rw z at e

  -- ---- the answer

  pub stops_short : (b : Broken) → WalkAt t (Err b) → FormedBy (Err (refused_at reason.TextBreaks t b.0)) t
  stops_short b s = BreaksAs.breaks b.0 s.longest s.ends refl

  pub stops_beyond : (r : Read HeadRead) → WalkAt t (Ok r) → r.end < length t → FormedBy (Err (refused_at reason.TextGoesOn t r.end)) t
  stops_beyond r w h = BreaksAs.follows r.end w.stops.longest w.stops.ends h refl

-- ---- what the walk of a whole text has read

module _ (t : List ℕ) (h : HeadRead) (w : WholeAt t h) where
  pub whole_in_form : InForm h.f h.c h.m h.n w.nets.ends
  whole_in_form = record { f_small = w.f_small; c_small = w.c_small; m_small = w.m_small; n_small = w.n_small; nets = w.nets.of }

  pub whole_is : t ≡ text_of h.f h.c h.m h.n w.nets.ends
  unfolding text_of
  whole_is =
      sym (take-append-drop h.start t) ∙ ap (λ (p : List ℕ). p ++ drop h.start t) w.head
      ∙ append_assoc (board_text h.f h.c h.m) (count_text h.n) _
      ∙ ap (λ (p : List ℕ). board_text h.f h.c h.m ++ (count_text h.n ++ p)) w.nets.is
