use Rattle.std.proofs.Common.{◌≡◌, drop, map}
use Rattle.std.specs.Prelude.{filter}
use Rattle.std.specs.Ordering.{is_eq}
use Rattle.eos_base.specs.PartitionNames.{name_cmp}
use Rattle.eos_claims.specs.Outputs.{Commit, last_offset, committed_offset}
use Rattle.eos_commits.specs.Plain.{plain_commit}
use Rattle.eos_commits.proofs.commits.last_committed.Given as goal

-- what is left to look at
abbrev pub invariant-loop-commit : goal.invariant-loop-commit
invariant-loop-commit l = last_offset l.last (filter (λ (c : Commit). is_eq (name_cmp c.partition (record { topic = l.topic; partition = l.partition }))) (map plain_commit (drop l.commit-index l.commits)))
    ≡ committed_offset (map plain_commit l.commits) (record { topic = l.topic; partition = l.partition })
