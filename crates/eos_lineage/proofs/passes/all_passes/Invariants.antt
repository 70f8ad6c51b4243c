use Rattle.std.proofs.Common.{◌≡◌, take, map, flat_map}
use Rattle.eos_commits.specs.Plain.{plain_commit}
use Rattle.eos_lineage.specs.steps.Tables.{plain_pass, passes_of}
use Rattle.eos_lineage.proofs.passes.all_passes.Given as goal

abbrev pub invariant-loop-commit : goal.invariant-loop-commit
invariant-loop-commit l = map plain_pass l.all.items ≡ flat_map passes_of (map plain_commit (take l.commit-index l.commits))
