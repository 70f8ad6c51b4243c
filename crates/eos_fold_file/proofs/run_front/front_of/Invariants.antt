use Rattle.std.proofs.Common.{◌≡◌, ◌≤◌, List}
use Rattle.eos_batch.specs.declared.batch.Batch.{Batch}
use Rattle.eos_kept.specs.Runs.{IsRun}
use Rattle.eos_fold_file.specs.steps.Heads.{AreFrom}
use Rattle.eos_fold_file.proofs.HeadsPassed.{HasPassed}
use Rattle.eos_fold_file.proofs.run_front.front_of.Given as goal

abbrev pub invariant-loop-i : goal.invariant-loop-i
invariant-loop-i l = record {
  known : IsRun l.front.run;
  begin : l.front.begin ≡ l.begin;
  sequenced : l.front.run.sequenced ≡ l.sequenced;
  within : l.count ≤ l.front.next;
  passed : (batches : List Batch) → AreFrom l.begin l.heads batches → HasPassed l.heads batches l.i l.front l.count;
}
