use Rattle.std.proofs.Common.{◌≡◌, take, map}
use Rattle.std.specs.List.{filter}
use Rattle.eos_commits.specs.Plain.{plain_commit}
use Rattle.eos_notes.specs.steps.Unlisted.{plain_name, commit_name, is_unlisted}
use Rattle.eos_notes.proofs.unlisted.unlisted_names.Given as goal

abbrev pub invariant-loop-commit : goal.invariant-loop-commit
invariant-loop-commit l = map plain_name l.names.items ≡ filter (is_unlisted (map plain_name l.listed)) (map commit_name (map plain_commit (take l.commit-index l.commits)))
