-- What stands before the nets, piece by piece: a word, or a number and the end of its line.
-- Assumes nothing.
use mathlib.Core.Path.{◌≡◌, refl, sym, ap, subst, ◌∙◌}
use mathlib.Core.Bool.{false}
use mathlib.Core.List.{List, [], ◌∷◌, ◌++◌, append_assoc}
use Prim.Native.Nat.{ℕ, ◌+◌, ◌-◌, ◌≤◌, ◌<◌}
use native.Mathlib.Omega.{arith}
use lib.ListN.{length, get_or, take, drop, length-append, length-drop, take-append-drop, get_or-append}
use lib.Seq.{take-add, length-take-le, drop_at, get_or_at}
use Rattle.text.specs.Forms.{decimal}
use Rattle.std.specs.Prelude.{Result, Ok, Err}
use Rattle.form.specs.declared.Read.{Read}
use Rattle.form.specs.declared.Broken.{Broken}
use Rattle.form.specs.Form.{newline, board_line, nets_word, number_then, board_text, count_text, nets_text, text_of, IsText, IsNets}
use Rattle.form.specs.Breaks.{Begins}
use Rattle.form.specs.Walk.{Stops, Short, Stuck, NumberAt, NoWord, WordAt, IsCounted, CountAt, BoardAt}
use Rattle.form.proofs.Stopping.{From, stuck, drop_on, Goes, goes_start, goes_as, goes_then, goes_stuck}
use Rattle.form.proofs.Numbers.{Num, number_then_append, number_from, number_breaks}
use Rattle.form.proofs.NetLines.{some_nets}

-- ---- a word

-- a word and one of the texts M
pub record Behind (word : List ℕ) (M : List ℕ → Type 0) (t : List ℕ) : Type 0 where
  pub s : List ℕ
  pub is : t ≡ word ++ s
  pub more : M s

pub strip : (w s u : List ℕ) → w ++ s ≡ w ++ u → u ≡ s
strip w s u e = sym (drop_at w u (length w) refl) ∙ ap (drop (length w)) (sym e) ∙ drop_at w s (length w) refl

module _ (word : List ℕ) (M : List ℕ → Type 0) (t : List ℕ) where
  pub word_from : (k : ℕ) → k ≤ length t → take k t ≡ word → From (Behind word M) t k M
  word_from k within whole =
      record {
        within = within;
        forth = λ s b. subst M (strip word s b.s (ap (λ (p : List ℕ). p ++ s) (sym whole) ∙ b.is)) b.more;
        back = λ s m. record { s = s; is = ap (λ (p : List ℕ). p ++ s) whole; more = m };
      }

  pub word_breaks : (k : ℕ) → k ≤ length t → NoWord word t k → Begins M [] → Stops (Behind word M) t k false
  word_breaks k within at some =
      stuck (Behind word M) t k within
      (record { rest = drop k word ++ some.rest; text = record { s = some.rest; is = goes_on; more = some.text } })
      (λ b. absurd (omega (arith, at.short, ap length b.is, length-append word b.s, length-take-le k t within)))
      (λ l s b. at.other l (next s b.s b.is))
    where
      goes_on : take k t ++ (drop k word ++ some.rest) ≡ word ++ some.rest
      goes_on =
          sym (append_assoc (take k t) (drop k word) some.rest)
          ∙ ap (λ (p : List ℕ). (p ++ drop k word) ++ some.rest) at.same
          ∙ ap (λ (p : List ℕ). p ++ some.rest) (take-append-drop k word)

      next : (s u : List ℕ) → take k t ++ (get_or t k 0 ∷ s) ≡ word ++ u → get_or t k 0 ≡ get_or word k 0
      next s u e =
          sym (get_or_at (take k t) (get_or t k 0) s 0 k (length-take-le k t within))
          ∙ ap (λ (p : List ℕ). get_or p k 0) e
          ∙ get_or-append word u 0 k at.short

-- ---- the texts of the form, by what comes first

abbrev Third : List ℕ → Type 0
Third = Num newline (λ m. IsCounted)

abbrev Second : List ℕ → Type 0
Second = Num newline (λ c. Third)

abbrev First : List ℕ → Type 0
First = Num newline (λ f. Second)

abbrev Board : List ℕ → Type 0
Board = Behind board_line First

abbrev Count : List ℕ → Type 0
Count = Behind nets_word (Num newline IsNets)

-- the count, and what follows
pub count_then : (n : ℕ) (s : List ℕ) → count_text n ++ s ≡ nets_word ++ (decimal n ++ (newline ∷ s))
unfolding count_text
count_then n s = ap (λ (p : List ℕ). nets_word ++ p) (number_then_append n newline s)

count_forth : (t : List ℕ) → IsCounted t → Count t
count_forth t h = record { s = _; is = h.is ∙ count_then h.n h.s; more = record { v = h.n; s = h.s; small = h.small; is = refl; more = h.nets } }

count_back : (t : List ℕ) → Count t → IsCounted t
count_back t c =
    let n = c.more in
    record { n = n.v; small = n.small; s = n.s; is = c.is ∙ ap (λ (p : List ℕ). nets_word ++ p) n.is ∙ sym (count_then n.v n.s); nets = n.more }

-- the board, and what follows
number_front : (x b : ℕ) (p s : List ℕ) → (number_then x b ++ p) ++ s ≡ decimal x ++ (b ∷ (p ++ s))
number_front x b p s = append_assoc (number_then x b) p s ∙ number_then_append x b (p ++ s)

pub board_then : (f c m : ℕ) (s : List ℕ) → board_text f c m ++ s ≡ board_line ++ (decimal f ++ (newline ∷ (decimal c ++ (newline ∷ (decimal m ++ (newline ∷ s))))))
unfolding board_text
board_then f c m s =
    ap (λ (p : List ℕ). board_line ++ p) (number_front f newline _ s
    ∙ ap (λ (p : List ℕ). decimal f ++ (newline ∷ p)) (number_front c newline _ s
    ∙ ap (λ (p : List ℕ). decimal c ++ (newline ∷ p)) (number_then_append m newline s)))

board_forth : (t : List ℕ) → IsText t → Board t
unfolding text_of
board_forth t h =
    let i = h.in_form in
    let counted : IsCounted _ = record { n = h.n; small = i.n_small; s = nets_text h.ends; is = refl; nets = record { ends = h.ends; of = i.nets; is = refl } } in
    let third : Third _ = record { v = h.m; s = _; small = i.m_small; is = refl; more = counted } in
    let second : Second _ = record { v = h.c; s = _; small = i.c_small; is = refl; more = third } in
    record { s = _; is = h.is ∙ board_then h.f h.c h.m _; more = record { v = h.f; s = _; small = i.f_small; is = refl; more = second } }

board_back : (t : List ℕ) → Board t → IsText t
unfolding text_of
board_back t b =
    let f = b.more in let c = f.more in let m = c.more in let n = m.more in let lines = n.nets in
    record {
      f = f.v;
      c = c.v;
      m = m.v;
      n = n.n;
      ends = lines.ends;
      in_form = record { f_small = f.small; c_small = c.small; m_small = m.small; n_small = n.small; nets = lines.of };
      is =
          b.is ∙ ap (λ (p : List ℕ). board_line ++ p) (f.is
          ∙ ap (λ (p : List ℕ). decimal f.v ++ (newline ∷ p)) (c.is
          ∙ ap (λ (p : List ℕ). decimal c.v ++ (newline ∷ p)) (m.is
          ∙ ap (λ (p : List ℕ). decimal m.v ++ (newline ∷ p)) (n.is
          ∙ ap (λ (p : List ℕ). count_text n.n ++ p) lines.is))))
          ∙ sym (board_then f.v c.v m.v _);
    }

-- ---- some text goes on behind each piece

some_number : (M : ℕ → List ℕ → Type 0) → Begins (M 0) [] → Begins (Num newline M) []
some_number M m = record { rest = _; text = record { v = 0; s = m.rest; small = omega arith; is = refl; more = m.text } }

some_counted : Begins IsCounted []
some_counted =
    let lines = some_nets 0 in
    record { rest = _; text = record { n = 0; small = omega arith; s = lines.rest; is = refl; nets = lines.text } }

some_third : Begins Third []
some_third = some_number _ some_counted

some_second : Begins Second []
some_second = some_number _ some_third

some_first : Begins First []
some_first = some_number _ some_second

-- ---- a word or a number more, and stopped in it, of any texts L

inside : (t : List ℕ) (a e : ℕ) → e ≤ length t → e - a ≤ length (drop a t)
inside t a e h = omega (arith, h, length-drop a t)

module _ (L : List ℕ → Type 0) (t : List ℕ) (a e : ℕ) where
  module _ (word : List ℕ) (M : List ℕ → Type 0) (here : Goes L t a e (Behind word M)) where
    word_goes : (end : ℕ) → WordAt word t e (Ok end) → Goes L t a end M
    word_goes end at =
        goes_then L (Behind word M) t a e here M end
        (record { past = at.past; within = at.within; from = word_from word M (drop e t) (end - e) (inside t e end at.within) at.bytes })

    word_stops : Begins M [] → (b : Broken) → WordAt word t e (Err b) → Stuck (Short L) t a b
    word_stops some b at =
        goes_stuck L (Behind word M) t a e here b
        (record { past = at.past; within = at.within; breaks = word_breaks word M (drop e t) (b.0 - e) (inside t e b.0 at.within) at.breaks some })

  module _ (M : ℕ → List ℕ → Type 0) (here : Goes L t a e (Num newline M)) where
    number_goes : (r : Read ℕ) → NumberAt newline t e (Ok r) → Goes L t a r.end (M r.value)
    number_goes r at =
        goes_then L (Num newline M) t a e here (M r.value) r.end
        (record { past = at.past; within = at.within; from = number_from newline refl M (drop e t) r.value (r.end - e) at.bytes.small (inside t e r.end at.within) at.bytes.is })

    number_stops : ((v : ℕ) → v < 65536 → Begins (M v) []) → (b : Broken) → NumberAt newline t e (Err b) → Stuck (Short L) t a b
    number_stops some b at =
        goes_stuck L (Num newline M) t a e here b
        (record {
          past = at.past;
          within = at.within;
          breaks = number_breaks newline refl M (drop e t) some at.breaks.v (b.0 - e) at.breaks.small (inside t e b.0 at.within) at.breaks.breaks;
        })

-- the bytes from a on: those to e, and those of the piece that stands there
pub bytes_more : (t : List ℕ) (a e end : ℕ) (p s : List ℕ) → a ≤ e → e ≤ end → take (e - a) (drop a t) ≡ p → take (end - e) (drop e t) ≡ s → take (end - a) (drop a t) ≡ p ++ s
bytes_more t a e end p s h l q r =
    let z : e - a + (end - e) ≡ end - a = omega arith in
    let both : take (e - a + (end - e)) (drop a t) ≡ p ++ s = take-add (e - a) (end - e) (drop a t) ∙ rw (drop_on t a e h, q, r) in
    rw z at both

-- ---- the walk over the board

module _ (t : List ℕ) where
  at_board : Goes IsText t 0 0 Board
  at_board = goes_as Board Board t 0 0 (goes_start Board t 0 (omega arith)) IsText board_forth board_back

  pub board_breaks : (b : Broken) → WordAt board_line t 0 (Err b) → BoardAt t (Err b)
  board_breaks = word_stops IsText t 0 0 board_line First at_board some_first

  module _ (start : ℕ) (at : WordAt board_line t 0 (Ok start)) where
    at_first : Goes IsText t 0 start First
    at_first = word_goes IsText t 0 0 board_line First at_board start at

    pub f_breaks : (b : Broken) → NumberAt newline t start (Err b) → BoardAt t (Err b)
    f_breaks = number_stops IsText t 0 start _ at_first (λ _ _. some_second)

    module _ (f : Read ℕ) (at_f : NumberAt newline t start (Ok f)) where
      at_second : Goes IsText t 0 f.end Second
      at_second = number_goes IsText t 0 start _ at_first f at_f

      pub c_breaks : (b : Broken) → NumberAt newline t f.end (Err b) → BoardAt t (Err b)
      c_breaks = number_stops IsText t 0 f.end _ at_second (λ _ _. some_third)

      module _ (c : Read ℕ) (at_c : NumberAt newline t f.end (Ok c)) where
        at_third : Goes IsText t 0 c.end Third
        at_third = number_goes IsText t 0 f.end _ at_second c at_c

        pub m_breaks : (b : Broken) → NumberAt newline t c.end (Err b) → BoardAt t (Err b)
        m_breaks = number_stops IsText t 0 c.end _ at_third (λ _ _. some_counted)

        pub board_read : (m : Read ℕ) → NumberAt newline t c.end (Ok m) → BoardAt t (Ok (record { value = record { f = f.value; c = c.value; m = m.value }; end = m.end }))
        unfolding board_text
        board_read m at-m =
            let F = number_then f.value newline in let C = number_then c.value newline in
            let first = bytes_more t 0 start f.end _ _ at.past at_f.past at.bytes at_f.bytes.is in
            let second = bytes_more t 0 f.end c.end _ _ (omega arith) at_c.past first at_c.bytes.is in
            let third = bytes_more t 0 c.end m.end _ _ (omega arith) at-m.past second at-m.bytes.is in
            record {
              past = omega arith;
              within = at-m.within;
              bytes = record {
                f_small = at_f.bytes.small;
                c_small = at_c.bytes.small;
                m_small = at-m.bytes.small;
                is = third ∙ append_assoc (board_line ++ F) C _ ∙ append_assoc board_line F _;
              };
            }

-- ---- the walk over the count

module _ (t : List ℕ) (a : ℕ) (within : a ≤ length t) where
  at_count : Goes IsCounted t a a Count
  at_count = goes_as Count Count t a a (goes_start Count t a within) IsCounted count_forth count_back

  pub count_breaks : (b : Broken) → WordAt nets_word t a (Err b) → CountAt t a (Err b)
  count_breaks = word_stops IsCounted t a a nets_word (Num newline IsNets) at_count (some_number IsNets (some_nets 0))

  module _ (start : ℕ) (at : WordAt nets_word t a (Ok start)) where
    pub count_read : (r : Result (Read ℕ) Broken) → NumberAt newline t start r → CountAt t a r
    unfolding count_text
    count_read (Ok n) at_n =
        record {
          past = omega (arith, at.past, at_n.past);
          within = at_n.within;
          bytes = record { small = at_n.bytes.small; is = bytes_more t a start n.end _ _ at.past at_n.past at.bytes at_n.bytes.is };
        }
    count_read (Err b) at_n = number_stops IsCounted t a start IsNets (word_goes IsCounted t a a nets_word (Num newline IsNets) at_count start at) (λ v _. some_nets v) b at_n

-- ---- the walk over a word

-- its first i letters stand from byte a to byte e
pub record Letters (word t : List ℕ) (a i e : ℕ) : Type 0 where
  pub place : e ≡ a + i
  pub within : e ≤ length t
  pub same : take i (drop a t) ≡ take i word
