-- The job file: count 3, then f, c, m; count n, then n pairs of FPGA numbers. All numbers are two bytes.
-- What stands before the nets is the job's head.
use Rattle.std.specs.Prelude.{List, ℕ, ◌+◌, ◌-◌, ◌*◌, ◌%◌, drop}
use Rattle.words.specs.Number.{word, numbers}
use Rattle.board.specs.Netlist.{Netlist}
use Rattle.job.specs.declared.Head.{Head}

-- the byte of each number in the head, and the head's length: beside this crate only the job writer asks for these
abbrev pub f_at : ℕ
f_at = 2

abbrev pub c_at : ℕ
c_at = 4

abbrev pub m_at : ℕ
m_at = 6

abbrev pub n_at : ℕ
n_at = 8

abbrev pub head_long : ℕ
head_long = 10

-- the byte where the nets of a job start
unfoldable pub nets_at : List ℕ → ℕ
nets_at job = head_long

-- what a job says
abbrev pub f_in : List ℕ → ℕ
f_in job = word job f_at

abbrev pub c_in : List ℕ → ℕ
c_in job = word job c_at

abbrev pub m_in : List ℕ → ℕ
m_in job = word job m_at

abbrev pub n_in : List ℕ → ℕ
n_in job = word job n_at

-- the usable width of m wires: m if even, m - 1 if odd
abbrev pub usable_width : ℕ → ℕ
usable_width m = m - m % 2

-- the usable width at FPGA v
abbrev pub width_in : List ℕ → ℕ → ℕ
width_in job v = usable_width (m_in job)

-- its head
abbrev pub head_in : List ℕ → Head
head_in job = record { f = f_in job; c = c_in job; m = m_in job; width = usable_width (m_in job); n = n_in job; start = nets_at job }

-- the bytes of the two numbers of net i, by the byte where the nets start
abbrev pub first_at : ℕ → ℕ → ℕ
first_at start i = start + 4 * i

abbrev pub second_at : ℕ → ℕ → ℕ
second_at start i = first_at start i + 2

-- the length of a job: the byte at which a net n would start
abbrev pub job_length : List ℕ → ℕ
job_length job = first_at (nets_at job) (n_in job)

-- the two FPGAs of net i
abbrev pub first_in : List ℕ → ℕ → ℕ
first_in job i = word job (first_at (nets_at job) i)

abbrev pub second_in : List ℕ → ℕ → ℕ
second_in job i = word job (second_at (nets_at job) i)

-- all FPGA numbers of its nets, two for each net
abbrev pub nets_in : List ℕ → List ℕ
nets_in job = numbers (drop (nets_at job) job)

-- the netlist that these bytes are, by how many wires of each FPGA to a crossbar are used
abbrev pub netlist_in : List ℕ → (ℕ → ℕ) → Netlist
netlist_in job width = record { f = f_in job; c = c_in job; width = width; n = n_in job; first = first_in job; second = second_in job }

-- the usable ones: this netlist is what all rules read
abbrev pub job_in : List ℕ → Netlist
job_in job = netlist_in job (width_in job)

-- all m of them, an odd one too: legal here is within m as written
abbrev pub wired_in : List ℕ → Netlist
wired_in job = netlist_in job (λ _. m_in job)
