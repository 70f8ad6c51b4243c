use Rattle.std.proofs.Common.{take, arith}
use Rattle.std.proofs.lemmas.List.{length-take}
use Rattle.eos_broker.proofs.StateOfLog.{all_counts}
use Rattle.eos_broker.proofs.partition_log.reread.Goals as goal

pub note-requires : goal.note-requires
note-requires c =
    let few = length-take c.loop-item.item-index c.args.items.now in
    all_counts c.loop-item.producers.items (take c.loop-item.item-index c.args.items.now) c.loop-item.invariant.1 (omega (arith, few, c.requires))
