-- `text_writer::put_head` meets its contract.
use Rattle.text_writer.proofs.Putting.{head_put}
use Rattle.text_writer.proofs.put_head.Goals as goal

pub returns : goal.returns
returns c =
    head_put _ _ _ _ _ _ _ _ _ _ _ c.word.ensures c.number_then.ensures c.number_then-2.ensures c.number_then-3.ensures c.word-2.ensures c.number_then-4.ensures
