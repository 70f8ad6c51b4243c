use Rattle.std.proofs.Common.{map, take}
use Rattle.eos_commits.specs.Plain.{plain_commit}
use Rattle.eos_faults.specs.steps.Tables.{AreOffsets}
use Rattle.eos_faults.proofs.commits.offsets_of.Given as goal

abbrev pub invariant-loop-commit : goal.invariant-loop-commit
invariant-loop-commit l = AreOffsets l.offsets (map plain_commit (take l.commit-index l.commits))
