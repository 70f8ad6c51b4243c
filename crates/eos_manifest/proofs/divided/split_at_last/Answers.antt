use Rattle.std.proofs.Common.{rules, sym, arith}
use Rattle.eos_manifest.proofs.TextPieces.{split_at, split_none}
use Rattle.eos_manifest.proofs.divided.split_at_last.Goals as goal

pub returns-then-text-at : goal.returns-then-text-at
returns-then-text-at c = split_at c.args.mark c.args.text.now c.loop-at.at (omega arith) c.loop-at.invariant.within (search rules) c.loop-at.invariant.none_after

pub returns : goal.returns
returns c = sym (split_none c.args.mark c.args.text.now (search rules))
