-- What a round may come to, computed: of all ways those that pass the test of the rule, on the crossbars that the search names.
use Rattle.std.specs.Prelude.{Bool, false, List, ℕ, Option, None, Some}
use Rattle.std.specs.List.{filter}
use Rattle.laws.specs.Row.{at}
use Rattle.board.specs.Netlist.{Netlist}
use Rattle.board.specs.Rule.{rule_test}
use Rattle.search.specs.declared.Over.{Over}
use Rattle.search.specs.Search.{search_of}
use Rattle.cases.specs.Ways.{ways}

-- by what the search has found; on a legal assignment no round is made
abbrev pub allowed_by : Option Over → Netlist → (ℕ → ℕ) → (ℕ → ℕ) → Bool
allowed_by None J a b = false
allowed_by (Some over) J a b = rule_test J a b over.crowded.0 over.room.0

-- the rule allows a round from `a` to `b`
abbrev pub allowed : Netlist → (ℕ → ℕ) → (ℕ → ℕ) → Bool
allowed J a b = allowed_by (search_of J a) J a b

-- every result of a round from `a`
abbrev pub possible : Netlist → (ℕ → ℕ) → List (List ℕ)
possible J a = filter (λ b. allowed J a (at b)) (ways J.c J.n)
