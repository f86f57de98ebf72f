-- `sheet::read::numbers_of` meets its contract.
use Rattle.sheet.proofs.Saying.{front_read}
use Rattle.sheet.proofs.read.numbers_of.Goals as goal

pub returns : goal.returns
returns c = let p = c.requires in front_read _ _ _ c.args.job.now.well_formed _ _ p.sheet_is_long p.every_net c.read_list.ensures
