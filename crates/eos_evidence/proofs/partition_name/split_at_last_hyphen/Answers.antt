use Rattle.std.proofs.Common.{rules, sym, arith}
use Rattle.eos_evidence.proofs.NamesOfPartitions.{split_at, split_none}
use Rattle.eos_evidence.proofs.partition_name.split_at_last_hyphen.Goals as goal

pub returns-then-name-at-eq45 : goal.returns-then-name-at-eq45
returns-then-name-at-eq45 c = split_at c.args.name.now c.loop-at.at (omega arith) c.loop-at.invariant.within (search rules) c.loop-at.invariant.none_after

pub returns : goal.returns
returns c = sym (split_none c.args.name.now (search rules))
