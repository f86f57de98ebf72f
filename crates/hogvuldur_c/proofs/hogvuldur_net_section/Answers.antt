-- `hogvuldur_c::hogvuldur_net_section` meets its contract.
use mathlib.Core.Path.{ap, ◌∙◌}
use Rattle.job.proofs.Reading.{section_short}
use Rattle.tell.specs.InC.{section_in_c}
use Rattle.hogvuldur_c.proofs.hogvuldur_net_section.Goals as goal

pub tell_section-requires : goal.tell_section-requires
tell_section-requires c = rw c.heads.ensures (section_short _)

pub returns : goal.returns
returns c = c.tell_section.ensures ∙ ap section_in_c (c.heads.ensures ∙ c.check_job.ensures.heads)
