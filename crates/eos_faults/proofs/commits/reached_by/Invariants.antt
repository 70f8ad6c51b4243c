use Rattle.std.proofs.Common.{map, take}
use Rattle.eos_commits.specs.Plain.{plain_commit}
use Rattle.eos_faults.specs.steps.Tables.{AreReached}
use Rattle.eos_faults.proofs.commits.reached_by.Given as goal

abbrev pub invariant-loop-commit : goal.invariant-loop-commit
invariant-loop-commit l = AreReached l.reached (map plain_commit (take l.commit-index l.commits))
