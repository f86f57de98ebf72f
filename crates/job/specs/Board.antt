-- A job that passed the check, as the netlist that all rules read.
use Rattle.board.specs.Netlist.{Netlist}
use Rattle.job.specs.declared.Job.{Job}
use Rattle.job.specs.Job.{job_in}

abbrev pub board_of : Job → Netlist
board_of job = job_in job.bytes.now
