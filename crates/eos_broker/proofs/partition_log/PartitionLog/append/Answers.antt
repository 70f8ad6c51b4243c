use Rattle.std.proofs.Common.{arith}
use Rattle.eos_broker.proofs.StateOfLog.{all_counts}
use Rattle.eos_broker.proofs.partition_log.PartitionLog.append.Goals as goal

pub note-requires : goal.note-requires
note-requires c = all_counts c.self.inside.producers.items c.self.inside.items.items c.self.invariant.1 (omega (arith, c.self.inside.items.ok.0, c.self.inside.items.ok.1, c.self.inside.items.small))
