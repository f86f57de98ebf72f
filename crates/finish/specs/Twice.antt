-- Two runs of finish, or of plan, on the same input: `plan` and `s` are what the first leaves, `plan'` and `s'` what the second leaves.
use Rattle.std.specs.Prelude.{◌≡◌, List, ℕ, Ok, Err}
use Rattle.round.specs.Twice.{SameBeyond}
use Rattle.finish.specs.Answer.{Finish}

-- both are done, from the same excess, and differ in the n numbers of the assignment at most; or both give the same refusal and leave the same
abbrev pub SameFinish : List ℕ → List ℕ → List ℕ → List ℕ → List ℕ → Finish → Finish → Type 0
SameFinish job plan plan' s s' (Ok one) (Ok other) = (one.excess ≡ other.excess) × SameBeyond job plan plan' s s'
SameFinish job plan plan' s s' (Ok one) (Err r') = ⊥
SameFinish job plan plan' s s' (Err r) (Ok other) = ⊥
SameFinish job plan plan' s s' (Err r) (Err r') = (r ≡ r') × (plan ≡ plan') × (s ≡ s')
