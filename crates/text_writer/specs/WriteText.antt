-- The text writer: a job to its text, in lent room.
use Rattle.std.specs.Prelude.{List, ℕ, length}
use Rattle.words.specs.Verdict.{Verdict, too_short, ◌then◌}
use Rattle.job.specs.Job.{f_in, c_in, m_in, n_in, nets_in}
use Rattle.job.specs.Check.{job_verdict}
use Rattle.form.specs.Form.{text_of}

-- the text of what a job says
unfoldable pub text_in : List ℕ → List ℕ
text_in job = text_of (f_in job) (c_in job) (m_in job) (n_in job) (nets_in job)

-- the job's refusals, then 11 for too little room
unfoldable pub write_text_verdict : List ℕ → ℕ → Verdict
write_text_verdict job room_length = job_verdict job then too_short room_length (length (text_in job))

-- the longest text of a job
abbrev pub most_text : ℕ
most_text = 32797
