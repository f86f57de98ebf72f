-- The steps of a recolouring: the nets on the two crossbars are collected, a dummy evens their number, and their labels are written back.
use Rattle.std.specs.Prelude.{◌≡◌, Bool, true, false, cond, List, ℕ, ◌+◌, ◌%◌, ◌≤◌, ◌<◌, eqb, ltb, length, drop, set}
use Rattle.laws.specs.Rank.{rank}
use Rattle.laws.specs.Row.{at}
use Rattle.job.specs.Job.{first_in, second_in}
use Rattle.job.specs.declared.Job.{Job}
use Rattle.board.specs.Rule.{on_two_test}
use Rattle.scratch.specs.Scratch.{most_nets, scratch_long}
use Rattle.split.specs.Split.{first_end, second_end, label_of, NetsIn}

-- net i is on x or y
abbrev pub taken : List ℕ → ℕ → ℕ → ℕ → Bool
taken plan x y i = on_two_test x y (at plan i)

-- how many nets below i are on x or y: the place of net i among those
abbrev pub place : List ℕ → ℕ → ℕ → ℕ → ℕ
place plan x y i = rank (taken plan x y) i

-- e of the nets below i are on x or y
pub record CountedOn (plan : List ℕ) (x y i e : ℕ) : Type 0 where
  pub is : e ≡ place plan x y i
  pub at_most : e ≤ i

-- with a dummy net, where the number of nets is odd
abbrev pub evened : ℕ → ℕ
evened count = count + count % 2

-- the FPGA of both ends of the dummy: no board has it
abbrev pub nowhere : ℕ
nowhere = 256

-- the ends of the e-th of k nets, put down as `split` wants them
abbrev pub with_ends : List ℕ → ℕ → ℕ → ℕ → ℕ → List ℕ
with_ends s k e v w = set (set s e v) (k + e) w

-- the places of both ends are in s
pub record Places (s : List ℕ) (k e : ℕ) : Type 0 where
  pub one_of : e < k
  pub all : k + k ≤ length s

-- room for the ends of all nets that are taken
pub record RoomFor (job : Job) (plan : List ℕ) (x y : ℕ) (s : List ℕ) (k : ℕ) : Type 0 where
  pub every_net : job.head.n ≤ length plan
  pub enough : place plan x y job.head.n ≤ k
  pub small : k ≤ most_nets
  pub scratch : scratch_long ≤ length s

-- the nets below i that are taken, e of them, have their ends in s; s₀ has become s
pub record Collected (job : Job) (plan : List ℕ) (x y k : ℕ) (s₀ s : List ℕ) (i e : ℕ) : Type 0 where
  pub counted : CountedOn plan x y i e
  pub first : (j : ℕ) → j < i → taken plan x y j ≡ true → first_end s (place plan x y j) ≡ first_in job.bytes.now j
  pub second : (j : ℕ) → j < i → taken plan x y j ≡ true → second_end s k (place plan x y j) ≡ second_in job.bytes.now j
  pub known : (d : ℕ) → d < e → (first_end s d < nowhere) × (second_end s k d < nowhere)
  pub long : length s ≡ length s₀
  pub beyond : drop scratch_long s ≡ drop scratch_long s₀

-- all nets that are taken are collected, and the dummy stands behind them where their number is odd
pub record CollectedAll (job : Job) (plan : List ℕ) (x y : ℕ) (s₀ s : List ℕ) (count : ℕ) : Type 0 where
  pub collected : Collected job plan x y (evened count) s₀ s job.head.n count
  pub nets : NetsIn s (evened count)
  pub dummy : count < evened count → (first_end s count ≡ nowhere) × (second_end s (evened count) count ≡ nowhere)

-- the label of the nets that are put on y: that of the dummy if there is one, so that one net more is left for x
unfoldable pub label_for_y : List ℕ → ℕ → ℕ
label_for_y s count = cond (ltb count (evened count)) (label_of s count) 1

-- the crossbar of a net with the label l, where `mark` is the label for y
unfoldable pub crossbar_by : ℕ → ℕ → ℕ → ℕ → ℕ
crossbar_by x y mark l = cond (eqb l mark) y x

-- an assignment of the job's nets, and room for the labels of `count` of them
pub record Labelled (job : Job) (plan s : List ℕ) (count : ℕ) : Type 0 where
  pub every_net : job.head.n ≤ length plan
  pub small : count ≤ most_nets
  pub scratch : scratch_long ≤ length s

-- the nets below i that are taken, e of them, are put on x or y by their labels; plan₀ has become plan
pub record WrittenBack (plan₀ plan : List ℕ) (n x y : ℕ) (s : List ℕ) (mark i e : ℕ) : Type 0 where
  pub counted : CountedOn plan₀ x y i e
  pub put : (j : ℕ) → j < i → taken plan₀ x y j ≡ true → at plan j ≡ crossbar_by x y mark (label_of s (place plan₀ x y j))
  pub stay : (j : ℕ) → j < i → taken plan₀ x y j ≡ false → at plan j ≡ at plan₀ j
  pub ahead : (j : ℕ) → i ≤ j → at plan j ≡ at plan₀ j
  pub long : length plan ≡ length plan₀
  pub beyond : drop n plan ≡ drop n plan₀
