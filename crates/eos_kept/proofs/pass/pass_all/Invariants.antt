use Rattle.std.proofs.Common.{◌≡◌, ◌≤◌, List}
use Rattle.eos_batch.specs.declared.batch.Batch.{Batch}
use Rattle.eos_fold.specs.declared.stop.Stop.TheVariants.{AtEnd}
use Rattle.eos_kept.specs.Runs.{IsRun}
use Rattle.eos_kept.specs.steps.Passing.{AreHeads}
use Rattle.eos_kept.proofs.PassedHeads.{HasPassed}
use Rattle.eos_kept.proofs.pass.pass_all.Given as goal

abbrev pub invariant-loop-i : goal.invariant-loop-i
invariant-loop-i l = record {
  known : IsRun l.front.run;
  stop : l.front.stop ≡ AtEnd;
  begin : l.front.begin ≡ l.fn.front.begin;
  sequenced : l.front.run.sequenced ≡ l.fn.front.run.sequenced;
  within : l.count ≤ l.front.next;
  passed : (bs : List Batch) → AreHeads bs l.heads.items → HasPassed bs l.i l.fn.front l.front l.count;
}
