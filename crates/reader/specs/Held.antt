-- A reader: the caller's job itself, and f, c, m and n, each under its sort; and what it gives of a net.
use Rattle.std.specs.Prelude.{List, ℕ, Option, Result, Ok, Err}
use Rattle.std.specs.Borrow.{Bor}
use Rattle.words.specs.declared.Refusal.{Refusal}
use Rattle.job.specs.declared.Head.{Head}
use Rattle.job.specs.Check.{checked_of}
use Rattle.job.specs.Read.{NetEnds, net_at}
use Rattle.reader.specs.declared.Numbers.{Numbers}
use Rattle.reader.specs.declared.Reader.{Reader}

-- the numbers by the check's answer: four zeros where the job is refused
abbrev pub numbers_of : Result Head Refusal → Numbers
numbers_of (Ok h) = record { f = record { 0 = h.f }; c = record { 0 = h.c }; m = h.m; n = record { 0 = h.n } }
numbers_of (Err r) = record { f = record { 0 = 0 }; c = record { 0 = 0 }; m = 0; n = record { 0 = 0 } }

-- the reader with these numbers
abbrev pub holding : Bor (List ℕ) → Numbers → Reader
holding job numbers = record { job = job; numbers = numbers }

-- the reader of a job
abbrev pub reader_of : Bor (List ℕ) → Reader
reader_of job = holding job (numbers_of (checked_of job.now))

-- the numbers that a reader holds
abbrev pub held_in : Reader → Numbers
held_in r = r.numbers

-- net i as a reader gives it
abbrev pub net_in : Reader → ℕ → Option NetEnds
net_in r i = net_at r.job.now r.numbers.n.0 i
