-- `sheet::put::put_sheet` meets its contract.
use Rattle.sheet.proofs.Putting.{sheet_put}
use Rattle.sheet.proofs.put.put_sheet.Goals as goal

pub returns : goal.returns
returns c = let p = c.requires in
    let job = c.args.job.now in
    sheet_put _ _ job.well_formed _ _ _ _ _ _ _ p.every_net p.counted c.copy.ensures c.write_behind.ensures (rw c.totals_count_at.ensures at c.write_behind-2.ensures) (rw c.totals_at.ensures at c.write_behind-3.ensures)
