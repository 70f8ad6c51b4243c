use Rattle.std.proofs.Common.{refl, w64}
use mir.Val.{to_z, of_z}
use Rattle.eos_touch.specs.Pair.{stands}
use Rattle.eos_touch.specs.declared.pair.PairFault.TheVariants.{FirstSequence}
use Rattle.eos_faults.specs.PartitionPlaces.{pair_kinds, placed_at}
use Rattle.eos_faults.proofs.KindsTested.{kinds_more}
use Rattle.eos_faults.proofs.walk.push_pairs.Goals as goal

pub loop-fault-preserved : goal.loop-fault-preserved
loop-fault-preserved c = record {
  kinds = refl;
  shown = kinds_more (placed_at c.args.offset (to_z w64 (of_z w64 c.args.says.0))) (stands c.args.is_sequenced c.args.before c.args.says.1) pair_kinds c.loop-fault.fault-index FirstSequence c.stands-is_there.result
      c.args.shown.now.items c.loop-fault.shown.items c.push_if.new.shown.items c.loop-fault-test.true c.loop-fault.invariant.shown c.stands-is_there.ensures c.in_ok-push_if.ensures;
}
