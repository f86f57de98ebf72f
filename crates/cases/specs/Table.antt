-- Document 01's cases 1 to 9 as one table: what that page says of each, in its order, and what document 02 says since. Holds.antt says what a
-- row means.
use Rattle.std.specs.Prelude.{List, [], ◌∷◌, ℕ, ◌+◌, eqb, length, replicate}
use Rattle.std.specs.List.{filter}
use Rattle.words.specs.Number.{bytes}
use Rattle.job_writer.specs.Write.{job_of}
use Rattle.job.specs.Job.{job_in, wired_in}
use Rattle.board.specs.Netlist.{Netlist}
use Rattle.text.specs.Letters.{letters}
use Rattle.finish.specs.Plan.{dealt}

-- ---- what a row may say. A job and a sheet are bytes; a plan and a start are lists of crossbar numbers, by net; J is a netlist

-- an assignment before or after a round, with its excess and the totals of all crossbars
pub record Stop : Type 0 where
  pub plan : List ℕ
  pub excess : ℕ
  pub totals : List ℕ

pub data Row : Type 0 where
  -- plan accepts the job
  accepted : (job : List ℕ) → Row
  -- plan refuses the job with this number, p and q
  refused : (job : List ℕ) (number p q : ℕ) → Row
  -- the deal is legal, so plan makes no round; and these are the bytes of its sheet
  sheet : (job written : List ℕ) → Row
  -- every FPGA has this degree, which is its limit
  full : (J : Netlist) (d : ℕ) → Row
  -- of all ways to put the nets on the crossbars these are legal
  legal : (J : Netlist) (plans : List (List ℕ)) → Row
  -- an assignment's excess
  excess : (job plan : List ℕ) (e : ℕ) → Row
  -- its load of FPGA v on crossbar x
  load_at : (job plan : List ℕ) (v x l : ℕ) → Row
  -- from this start the rule allows a round, and every result that it allows is legal: there is one round
  one_round : (job start : List ℕ) → Row
  -- of all ways the rule allows these as the result of a round
  results : (job start : List ℕ) (plans : List (List ℕ)) → Row
  -- every result that the rule allows has these loads at FPGA v, and these totals
  always : (job start : List ℕ) (v : ℕ) (loads totals : List ℕ) → Row
  -- the start and what each round leaves, up to a legal assignment
  rounds : (job : List ℕ) (stops : List Stop) → Row
  -- the job has this text, and the text is read as the job
  text : (job t : List ℕ) → Row
  -- the text is refused with this number, at byte q of line p
  broken : (t : List ℕ) (number p q : ℕ) → Row

-- ---- the jobs, and what is said of them

-- the FPGAs of these nets, two for each
abbrev pub ends : List (ℕ × ℕ) → List ℕ
ends [] = []
ends (net ∷ nets) = net.0 ∷ net.1 ∷ ends nets

-- the job of f FPGAs, c crossbars and m wires with these nets
abbrev pub board : ℕ → ℕ → ℕ → List (ℕ × ℕ) → List ℕ
board f c m nets = job_of f c m (length nets) (ends nets)

-- the deal of a job
abbrev pub deal_of : List ℕ → List ℕ
deal_of job = dealt (job_in job) []

-- the job of case 4: a triangle
abbrev pub four : List ℕ
four = board 3 2 1 ((0, 1) ∷ (1, 2) ∷ (2, 0) ∷ [])

-- the job of case 6, and its four results
abbrev pub six : List ℕ
six = board 3 2 2 ((0, 1) ∷ (1, 2) ∷ (0, 1) ∷ (1, 2) ∷ (0, 2) ∷ [])

-- net 4 on 0, one of nets 0 and 2 on 1, one of nets 1 and 3 on 1
abbrev pub results₆ : List (List ℕ)
results₆ = (0 ∷ 0 ∷ 1 ∷ 1 ∷ 0 ∷ []) ∷ (0 ∷ 1 ∷ 1 ∷ 0 ∷ 0 ∷ []) ∷ (1 ∷ 0 ∷ 0 ∷ 1 ∷ 0 ∷ []) ∷ (1 ∷ 1 ∷ 0 ∷ 0 ∷ 0 ∷ []) ∷ []

-- the job of case 7
abbrev pub seven : List ℕ
seven = board 2 3 2 (replicate 6 (0, 1))

-- the start, and what each round leaves: a plan, its excess and its totals
abbrev pub start₇ : Stop
start₇ = record { plan = replicate 6 1; excess = 8; totals = 0 ∷ 6 ∷ 0 ∷ [] }

abbrev pub stops₇ : List Stop
stops₇ =
    record { plan = 0 ∷ 0 ∷ 0 ∷ 1 ∷ 1 ∷ 1 ∷ []; excess = 4; totals = 3 ∷ 3 ∷ 0 ∷ [] }
    ∷ record { plan = 0 ∷ 0 ∷ 2 ∷ 1 ∷ 1 ∷ 1 ∷ []; excess = 2; totals = 2 ∷ 3 ∷ 1 ∷ [] }
    ∷ record { plan = 0 ∷ 0 ∷ 2 ∷ 1 ∷ 1 ∷ 2 ∷ []; excess = 0; totals = 2 ∷ 2 ∷ 2 ∷ [] }
    ∷ []

-- the job and the start of case 8
abbrev pub eight : List ℕ
eight = board 4 2 2 ((0, 1) ∷ (1, 2) ∷ (2, 0) ∷ (0, 3) ∷ (0, 3) ∷ [])

abbrev pub start₈ : List ℕ
start₈ = replicate 5 0

-- three nets between two FPGAs that have three wires to the only crossbar
abbrev pub three : List ℕ
three = board 2 1 3 (replicate 3 (0, 1))

-- ---- the table: each row with the number of its case; what a request of document 02 says is numbered behind the cases

abbrev pub request : ℕ → ℕ
request k = 100 + k

abbrev pub table : List (ℕ × Row)
table =
    (1, sheet (bytes (0x0003 ∷ 0x0001 ∷ 0x0001 ∷ 0x0002 ∷ 0x0000 ∷ [])) (bytes (0x0003 ∷ 0x0001 ∷ 0x0001 ∷ 0x0002 ∷ 0x0000 ∷ 0x0001 ∷ 0x0000 ∷ [])))
    ∷ (
      2,
      sheet (board 3 2 2 ((0, 1) ∷ (1, 2) ∷ (2, 0) ∷ (0, 1) ∷ []))
          (bytes (0x0003 ∷ 0x0003 ∷ 0x0002 ∷ 0x0002 ∷ 0x0004 ∷ 0x0000 ∷ 0x0001 ∷ 0x0000 ∷ 0x0001 ∷ 0x0002 ∷ 0x0002 ∷ 0x0002 ∷ [])),
    )
    ∷ (3, accepted (board 2 1 2 (replicate 2 (0, 1))))
    ∷ (3, refused (board 2 1 2 (replicate 3 (0, 1))) 12 0 0)
    ∷ (4, refused four 6 6 0)
    ∷ (4, full (wired_in four) 2)
    ∷ (4, legal (wired_in four) [])
    ∷ (5, refused (board 1 1 0 []) 5 6 0)
    ∷ (5, refused (board 1 1 65 []) 5 6 0)
    ∷ (5, accepted (board 1 1 64 []))
    ∷ (5, accepted (board 1 1 63 []))
    ∷ (6, excess six (deal_of six) 1)
    ∷ (6, load_at six (deal_of six) 0 0 3)
    ∷ (6, one_round six (deal_of six))
    ∷ (6, results six (deal_of six) results₆)
    ∷ (7, rounds seven (start₇ ∷ stops₇))
    ∷ (8, one_round eight start₈)
    ∷ (8, always eight start₈ 0 (2 ∷ 2 ∷ []) (3 ∷ 2 ∷ []))
    ∷ (9, refused (board 5 1 2 ((5, 5) ∷ [])) 9 0 10)
    ∷ (9, refused (board 6 1 2 ((5, 5) ∷ [])) 10 0 12)
    ∷ (
      request 1,
      sheet (board 2 2 3 (replicate 4 (0, 1)))
          (bytes (0x0003 ∷ 0x0002 ∷ 0x0002 ∷ 0x0003 ∷ 0x0004 ∷ 0x0000 ∷ 0x0001 ∷ 0x0000 ∷ 0x0001 ∷ 0x0002 ∷ 0x0002 ∷ 0x0002 ∷ [])),
    )
    ∷ (request 1, refused (board 2 2 3 (replicate 5 (0, 1))) 12 0 0)
    ∷ (request 1, refused three 12 0 0)
    ∷ (request 1, legal (wired_in three) (replicate 3 0 ∷ []))
    ∷ (request 2, refused (board 5 1 2 ((0, 1) ∷ (5, 4) ∷ [])) 9 1 14)
    ∷ (request 2, refused (board 5 1 2 ((0, 1) ∷ (4, 5) ∷ [])) 27 1 16)
    ∷ (request 2, refused (board 5 1 2 ((0, 1) ∷ (4, 4) ∷ [])) 10 1 16)
    ∷ (request 3, text (board 3 2 2 ((0, 1) ∷ (1, 2) ∷ (2, 0) ∷ (0, 1) ∷ [])) (letters "board 3\n3\n2\n2\nnets 4\n0 1\n1 2\n2 0\n0 1\n"))
    ∷ (request 3, broken (letters "board 4\n") 31 1 6)
    ∷ (request 3, broken (letters "board 3\n01\n") 31 2 1)
    ∷ (request 3, broken (letters "board 3\n65536\n") 31 2 4)
    ∷ (request 3, broken (letters "board 3\n2\n1\n2\r\n") 31 4 1)
    ∷ (request 3, broken (letters "board 3\n2\n1\n2\nnets 65536\n") 31 5 9)
    ∷ (request 3, broken (letters "board 3\n2\n1\n2\nnets 1\n") 31 6 0)
    ∷ (request 3, broken (letters "board 3\n2\n1\n2\nnets 1\n0  1\n") 31 6 2)
    ∷ (request 3, broken (letters "board 3\n2\n1\n2\nnets 1\n0 1") 31 6 3)
    ∷ (request 3, broken (letters "board 3\n2\n1\n2\nnets 1\n0 1\n\n") 32 7 0)
    ∷ []

-- the rows of one case
abbrev pub rows_of : ℕ → List (ℕ × Row)
rows_of k = filter (λ r. eqb r.0 k) table
