use Rattle.eos_source.specs.Said.{known_by}
use Rattle.eos_source_check.proofs.EachTimes.{each_of_none, each_of_bytes}
use Rattle.eos_source_check.proofs.times.times_of.Goals as goal

pub returns-then-is_empty-clause-times : goal.returns-then-is_empty-clause-times
returns-then-is_empty-clause-times g c =
    each_of_none (known_by (g.S.Source.said c.args.source.now) (g.S.Source.is_log c.args.source.now) c.args.named.piece) c.args.named.name.now c.args.named.next c.args.offsets.now c.between-lying.result c.begin_of-begin.result c.begin_of-begin.ensures
    c.between-lying.ensures c.new.result.items (c.is_empty.ensures c.if-is_empty.true) c.new.ensures.items

pub returns-clause-times : goal.returns-clause-times
returns-clause-times g c =
    let found = rw c.in-Some.is at c.in_ok-times_of_log.ensures.found in
    each_of_bytes (known_by (g.S.Source.said c.args.source.now) (g.S.Source.is_log c.args.source.now) c.args.named.piece) c.args.named.name.now c.args.named.next c.args.offsets.now c.between-lying.result c.begin_of-begin.result c.begin_of-begin.ensures
    c.between-lying.ensures _ c.in-Some.times.items c.in_ok-asked.ensures found
