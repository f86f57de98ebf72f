-- The rule of a round on two crossbars A and B, with the assignment `a` before it and `b` after it: as statements, and as one test that computes.
use Rattle.std.specs.Prelude.{◌≡◌, Bool, ◌&&◌, ◌||◌, cond, ◌≢◌, ◌⊎◌, ℕ, ◌+◌, ◌-◌, ◌*◌, ◌%◌, ◌≤◌, ◌<◌, eqb, leb}
use Rattle.laws.specs.Test.{every, implies}
use Rattle.board.specs.Netlist.{Netlist}
use Rattle.board.specs.Board.{load, total}

-- by how much two numbers differ
unfoldable pub differ : ℕ → ℕ → ℕ
differ x y = x - y + (y - x)

-- the crossbar x is A or B
abbrev pub OnTwo : ℕ → ℕ → ℕ → Type 0
OnTwo A B x = (x ≡ A) ⊎ (x ≡ B)

-- Nets on other crossbars stay; nets on A or B are on A or B.
pub record Moved (J : Netlist) (a b : ℕ → ℕ) (A B : ℕ) : Type 0 where
  pub stay : (i : ℕ) → i < J.n → a i ≢ A → a i ≢ B → b i ≡ a i
  pub among : (i : ℕ) → i < J.n → OnTwo A B (a i) → OnTwo A B (b i)

-- One FPGA of width m: s is its load on A plus B before, l and r are its loads on A and on B after.
pub record Halves (m s l r : ℕ) : Type 0 where
  pub low : s ≤ 2 * m → (l ≤ m) × (r ≤ m)
  pub high : 2 * m ≤ s → (m ≤ l) × (m ≤ r)
  pub odd : s % 2 ≡ 1 → differ l r ≡ 1
  pub even : s % 2 ≡ 0 → (differ l r ≡ 0) ⊎ (differ l r ≡ 2)

-- the same of FPGA v
abbrev pub Clauses : Netlist → (ℕ → ℕ) → (ℕ → ℕ) → ℕ → ℕ → ℕ → Type 0
Clauses J a b A B v = Halves (J.width v) (load J a v A + load J a v B) (load J b v A) (load J b v B)

-- the whole rule
pub record Recoloured (J : Netlist) (a b : ℕ → ℕ) (A B : ℕ) : Type 0 where
  pub moved : Moved J a b A B
  pub clauses : (v : ℕ) → v < J.f → Clauses J a b A B v
  -- the new total of A equals that of B or is one more
  pub totals : (total J b A ≡ total J b B) ⊎ (total J b A ≡ total J b B + 1)

-- The tests, each with the name of what it tests.
abbrev pub on_two_test : ℕ → ℕ → ℕ → Bool
on_two_test A B x = eqb x A || eqb x B

unfoldable pub moved_test : (ℕ → ℕ) → (ℕ → ℕ) → ℕ → ℕ → ℕ → Bool
moved_test a b A B i = cond (on_two_test A B (a i)) (on_two_test A B (b i)) (eqb (b i) (a i))

unfoldable pub halves_test : ℕ → ℕ → ℕ → ℕ → Bool
halves_test m s l r =
    (implies (leb s (2 * m)) (leb l m && leb r m) && implies (leb (2 * m) s) (leb m l && leb m r))
    && (implies (eqb (s % 2) 1) (eqb (differ l r) 1) && implies (eqb (s % 2) 0) (on_two_test 0 2 (differ l r)))

unfoldable pub clauses_test : Netlist → (ℕ → ℕ) → (ℕ → ℕ) → ℕ → ℕ → ℕ → Bool
clauses_test J a b A B v = halves_test (J.width v) (load J a v A + load J a v B) (load J b v A) (load J b v B)

unfoldable pub totals_test : ℕ → ℕ → Bool
totals_test p q = eqb p q || eqb p (q + 1)

unfoldable pub rule_test : Netlist → (ℕ → ℕ) → (ℕ → ℕ) → ℕ → ℕ → Bool
rule_test J a b A B = every (moved_test a b A B) J.n && every (clauses_test J a b A B) J.f && totals_test (total J b A) (total J b B)
