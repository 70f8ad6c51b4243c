use Rattle.std.proofs.Common.{◌∷◌, [], take}
use Rattle.eos_kept.specs.Held.{Asking}
use Rattle.eos_kept.proofs.PartsHeld.{of_partition, more_held, is_small}
use Rattle.eos_kept.proofs.held.run_held.Goals as goal

pub read_held-requires : goal.read_held-requires
read_held-requires c = is_small c.args.partition.now c.as_slice-segments.result.now c.loop-i.i c.index-segments-i.result c.requires c.as_slice-segments.ensures c.loop-i-test.true c.index-segments-i.is

pub longer-requires : goal.longer-requires
longer-requires c =
    let a : Asking = record { topics = c.args.asked.topics.now; wanted = c.args.asked.wanted; topic = c.args.partition.now.end.topic } in
    let ss = c.as_slice-segments.result.now in
    let s = c.index-segments-i.result in (
      a,
      take c.loop-i.i ss,
      s ∷ [],
      c.loop-i.invariant,
      of_partition a.topics a.wanted c.args.partition.now ss c.loop-i.i s c.in_ok-next.next c.requires c.as_slice-segments.ensures c.loop-i-test.true c.index-segments-i.is c.in_ok-next.ensures,
    )

pub loop-i-preserved : goal.loop-i-preserved
loop-i-preserved c =
    let a : Asking = record { topics = c.args.asked.topics.now; wanted = c.args.asked.wanted; topic = c.args.partition.now.end.topic } in
    let ss = c.as_slice-segments.result.now in
    let s = c.index-segments-i.result in
    let next = of_partition a.topics a.wanted c.args.partition.now ss c.loop-i.i s c.in_ok-next.next c.requires c.as_slice-segments.ensures c.loop-i-test.true c.index-segments-i.is c.in_ok-next.ensures in
    more_held a ss c.loop-i.i s c.in_ok-longer.field-0 c.loop-i-test.true c.index-segments-i.is (c.in_ok-longer.ensures a (take c.loop-i.i ss) (s ∷ []) c.loop-i.invariant next)
