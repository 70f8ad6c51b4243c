use Rattle.std.proofs.Common.{List}
use Rattle.eos_batch.specs.declared.batch.Batch.{Batch}
use Rattle.eos_kept.specs.Runs.{IsRunOf}
use Rattle.eos_fold.specs.BatchesWhole.{StandsInWhole}
use Rattle.eos_fold.proofs.Judged.{AreFound, Judged, IsLeastSoFar}
use Rattle.eos_kept.proofs.run.Run.whole_fault.Given as goal

abbrev pub invariant-loop-producer : goal.invariant-loop-producer
invariant-loop-producer l = record {
  found : AreFound l.self.producers l.rest;
  judged : (hs : List Batch) → IsRunOf hs l.self → IsLeastSoFar (Judged l.self.sequenced hs l.self.producers l.rest) (StandsInWhole l.self.sequenced hs) l.fault;
}
