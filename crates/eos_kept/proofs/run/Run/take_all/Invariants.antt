use Rattle.std.proofs.Common.{◌≡◌, List, length}
use Rattle.std.specs.BTreeMap.{btree_map_len}
use Rattle.eos_batch.specs.declared.batch.Batch.{Batch}
use Rattle.eos_fold.specs.steps.Joins.{rest_of}
use Rattle.eos_kept.specs.steps.Taking.{CanTake, Begins, HasTaken}
use Rattle.eos_kept.proofs.run.Run.take_all.Given as goal

abbrev pub invariant-loop-producer : goal.invariant-loop-producer
invariant-loop-producer l = record {
  all : length l.self.heads.list ≡ length l.fn.self.heads.list;
  capacity : l.self.heads.room ≡ l.fn.self.heads.room;
  sequenced : l.self.sequenced ≡ l.fn.self.sequenced;
  taking : CanTake l.by l.self.producers l.self.heads.list (rest_of l.after);
  taken : (xs ys : List Batch) → Begins xs ys l.fn.self.sequenced l.fn.self.producers l.fn.self.heads.list l.fn.self.fault (rest_of l.fn.after) → HasTaken xs ys l.fn.self.sequenced l.self.producers l.self.heads.list l.self.fault (rest_of l.after);
}

abbrev pub decreases-loop-producer : goal.decreases-loop-producer
decreases-loop-producer l = btree_map_len l.after
