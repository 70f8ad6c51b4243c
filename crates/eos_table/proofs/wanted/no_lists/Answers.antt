use Rattle.std.proofs.Common.{arith}
use Rattle.eos_table.proofs.WantedLists.{none_have}
use Rattle.eos_table.proofs.wanted.no_lists.Goals as goal

pub returns : goal.returns
returns c = none_have c.args.parts.now c.loop-i.lists.items (omega (arith, c.loop-i.invariant.0, c.loop-i.invariant.1, c.loop-i-test.false)) c.loop-i.invariant.2
