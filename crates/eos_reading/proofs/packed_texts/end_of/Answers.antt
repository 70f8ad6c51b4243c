use Rattle.std.proofs.Common.{sym, ◌∙◌, arith}
use Rattle.eos_reading.proofs.TextsPlaced.{end_at}
use Rattle.eos_reading.proofs.packed_texts.end_of.Goals as goal

pub returns : goal.returns
returns c = c.end.ensures ∙ sym (end_at c.args.ends.now c.args.count c.index-ends-count.result (omega (arith, c.if-count-eq0.false)) c.requires c.index-ends-count.is)
