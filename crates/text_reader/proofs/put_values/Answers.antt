-- `text_reader::put_values` meets its contract.
use native.Mathlib.Omega.{arith}
use Rattle.text_reader.proofs.Walking.{line_is, none_wrote, wrote_line, one_wrote, all_wrote}
use Rattle.form.proofs.Alone.{known_whole}
use Rattle.text_reader.proofs.put_values.Goals as goal

pub loop-i-init : goal.loop-i-init
loop-i-init c = ((known_whole c.args.formed.now).within, none_wrote c.args.formed.now.text.now c.args.formed.now.head c.args.room.now _ c.put_head.ensures)

pub unwrap-line-requires : goal.unwrap-line-requires
unwrap-line-requires c = let l = c.loop-i in wrote_line c.args.formed.now.text.now c.args.formed.now.head c.args.room.now _ l.at l.i (omega arith) l.invariant.1 (known_whole c.args.formed.now) _ c.net.ensures

pub loop-i-preserved : goal.loop-i-preserved
loop-i-preserved c = let l = c.loop-i in
    let line = line_is _ _ _ _ c.net.ensures c.unwrap-line.ensures in
    (line.within, one_wrote c.args.formed.now.text.now c.args.formed.now.head c.args.room.now _ l.at l.i (omega arith) l.invariant.1 _ _ line c.put_net.ensures)

pub returns : goal.returns
returns c = all_wrote c.args.formed.now.text.now c.args.formed.now.head c.args.room.now _ _ _ (omega arith) c.loop-i.invariant.1
