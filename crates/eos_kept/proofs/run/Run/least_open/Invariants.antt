use Rattle.std.proofs.Common.{List}
use Rattle.eos_batch.specs.declared.batch.Batch.{Batch}
use Rattle.eos_kept.specs.Runs.{IsRunOf}
use Rattle.eos_fold.proofs.Judged.{AreFound, OpenSoFar, IsOpenIn, IsIdSoFar}
use Rattle.eos_kept.proofs.run.Run.least_open.Given as goal

abbrev pub invariant-loop-producer : goal.invariant-loop-producer
invariant-loop-producer l = record {
  found : AreFound l.self.producers l.rest;
  judged : (hs : List Batch) → IsRunOf hs l.self → IsIdSoFar (OpenSoFar l.self.producers l.rest) (IsOpenIn hs) l.least;
}
