-- How the form is walked, piece by piece: what each piece of the walk has found. A piece begins at byte a of the text; where it breaks, the bytes before
-- that place are in order.
use Rattle.std.specs.Prelude.{◌≡◌, Bool, true, false, ◌&&◌, ◌||◌, ◌⊎◌, List, ◌++◌, ℕ, suc, ◌-◌, ◌+◌, ◌*◌, ◌≤◌, ◌<◌, leb, eqb, length, get_or, take, drop, Result, Ok, Err}
use Rattle.text.specs.Forms.{decimal}
use Rattle.form.specs.declared.Read.{Read}
use Rattle.form.specs.declared.Broken.{Broken}
use Rattle.form.specs.declared.Board.{Board}
use Rattle.form.specs.declared.HeadRead.{HeadRead}
use Rattle.form.specs.Form.{number_then, net_line, board_text, count_text, IsText, IsNets}
use Rattle.form.specs.Breaks.{Longest}

-- a walk over t stops behind k bytes, the longest beginning of a text of L; and it is, or is not, a whole one
abbrev pub Ends : Bool → Type 0 → Type 0
Ends true A = A
Ends false A = A → ⊥

pub record Stops (L : List ℕ → Type 0) (t : List ℕ) (k : ℕ) (whole : Bool) : Type 0 where
  pub longest : Longest L t k
  pub ends : Ends whole (L (take k t))

-- the longest beginning is no whole one
abbrev pub Short : (List ℕ → Type 0) → List ℕ → ℕ → Type 0
Short L t k = Stops L t k false

-- ---- a piece of a text

-- the piece stands from byte a to byte `end`, and its bytes are these
pub record Stands (Bytes : List ℕ → Type 0) (t : List ℕ) (a end : ℕ) : Type 0 where
  pub past : a ≤ end
  pub within : end ≤ length t
  pub bytes : Bytes (take (end - a) (drop a t))

-- the piece from byte a on breaks at byte b, so many bytes behind its start
pub record Stuck (Breaks : List ℕ → ℕ → Type 0) (t : List ℕ) (a : ℕ) (b : Broken) : Type 0 where
  pub past : a ≤ b.0
  pub within : b.0 ≤ length t
  pub breaks : Breaks (drop a t) (b.0 - a)

-- ---- a number

abbrev pub is_digit : ℕ → Bool
is_digit b = leb 48 b && leb b 57

-- byte b can be the first digit of a number; or the next, behind the digits of v
unfoldable pub digit_fits : Bool → ℕ → ℕ → Bool
digit_fits first v b = is_digit b && (first || (leb 1 v && leb (10 * v + (b - 48)) 65535))

-- of a number, t has k bytes: none, or the digits of v
abbrev pub Came : List ℕ → ℕ → ℕ → Type 0
Came t v k = ((k ≡ 0) × (v ≡ 0)) ⊎ (take k t ≡ decimal v)

-- so many, and with the next byte no number and byte `after` behind it could go on
pub record NumberBreaks (after : ℕ) (t : List ℕ) (v k : ℕ) : Type 0 where
  pub came : Came t v k
  pub no_digit : k < length t → digit_fits (eqb k 0) v (get_or t k 0) ≡ false
  pub no_after : k < length t → 0 < k → get_or t k 0 ≡ after → ⊥

-- the number v and byte `after`
pub record IsNumber (after v : ℕ) (t : List ℕ) : Type 0 where
  pub small : v < 65536
  pub is : t ≡ number_then v after

-- no more of a number than its first k bytes, the digits of some v
pub record NoNumber (after : ℕ) (t : List ℕ) (k : ℕ) : Type 0 where
  pub v : ℕ
  pub small : v < 65536
  pub breaks : NumberBreaks after t v k

abbrev pub NumberAt : ℕ → List ℕ → ℕ → Result (Read ℕ) Broken → Type 0
NumberAt after t a (Ok r) = Stands (IsNumber after r.value) t a r.end
NumberAt after t a (Err b) = Stuck (NoNumber after) t a b

-- ---- a word

-- the first k bytes of t are those of the word, and t does not go on with it
pub record NoWord (word t : List ℕ) (k : ℕ) : Type 0 where
  pub short : k < length word
  pub same : take k t ≡ take k word
  pub other : k < length t → get_or t k 0 ≡ get_or word k 0 → ⊥

abbrev pub WordAt : List ℕ → List ℕ → ℕ → Result ℕ Broken → Type 0
WordAt word t a (Ok end) = Stands (λ s. s ≡ word) t a end
WordAt word t a (Err b) = Stuck (NoWord word) t a b

-- ---- a net's line, and all of them

pub record IsNet (net : ℕ × ℕ) (t : List ℕ) : Type 0 where
  pub first_small : net.0 < 65536
  pub second_small : net.1 < 65536
  pub is : t ≡ net_line net.0 net.1

-- the lines of one net or more stop here
abbrev pub NoNet : List ℕ → ℕ → Type 0
NoNet t k = (n : ℕ) → Short (IsNets (suc n)) t k

abbrev pub NetAt : List ℕ → ℕ → Result (Read (ℕ × ℕ)) Broken → Type 0
NetAt t a (Ok r) = Stands (IsNet r.value) t a r.end
NetAt t a (Err b) = Stuck NoNet t a b

-- the lines of n nets
pub record AllStand (n : ℕ) (t : List ℕ) (a end : ℕ) : Type 0 where
  pub past : a ≤ end
  pub within : end ≤ length t
  pub stops : Stops (IsNets n) (drop a t) (end - a) true

abbrev pub NetsAt : ℕ → List ℕ → ℕ → Result ℕ Broken → Type 0
NetsAt n t a (Ok end) = AllStand n t a end
NetsAt n t a (Err b) = Stuck (Short (IsNets n)) t a b

-- ---- what stands before the nets

-- the rest of a text behind its board: the count of the nets, and their lines
pub record IsCounted (t : List ℕ) : Type 0 where
  pub n : ℕ
  pub small : n < 65536
  pub s : List ℕ
  pub is : t ≡ count_text n ++ s
  pub nets : IsNets n s

pub record IsCount (n : ℕ) (t : List ℕ) : Type 0 where
  pub small : n < 65536
  pub is : t ≡ count_text n

abbrev pub CountAt : List ℕ → ℕ → Result (Read ℕ) Broken → Type 0
CountAt t a (Ok r) = Stands (IsCount r.value) t a r.end
CountAt t a (Err b) = Stuck (Short IsCounted) t a b

pub record IsBoard (b : Board) (t : List ℕ) : Type 0 where
  pub f_small : b.f < 65536
  pub c_small : b.c < 65536
  pub m_small : b.m < 65536
  pub is : t ≡ board_text b.f b.c b.m

-- the board stands in front
abbrev pub BoardAt : List ℕ → Result (Read Board) Broken → Type 0
BoardAt t (Ok r) = Stands (IsBoard r.value) t 0 r.end
BoardAt t (Err b) = Stuck (Short IsText) t 0 b

-- ---- all of it

-- t is the text of f, c, m and n nets, whose lines start at byte `start`
pub record WholeAt (t : List ℕ) (h : HeadRead) : Type 0 where
  pub f_small : h.f < 65536
  pub c_small : h.c < 65536
  pub m_small : h.m < 65536
  pub n_small : h.n < 65536
  pub within : h.start ≤ length t
  pub head : take h.start t ≡ board_text h.f h.c h.m ++ count_text h.n
  pub nets : IsNets h.n (drop h.start t)

-- the text of these numbers, with nothing behind it; or more follows
pub record Walked (t : List ℕ) (r : Read HeadRead) : Type 0 where
  pub stops : Stops IsText t r.end true
  pub whole : length t ≤ r.end → WholeAt t r.value

abbrev pub WalkAt : List ℕ → Result (Read HeadRead) Broken → Type 0
WalkAt t (Ok r) = Walked t r
WalkAt t (Err b) = Short IsText t b.0
