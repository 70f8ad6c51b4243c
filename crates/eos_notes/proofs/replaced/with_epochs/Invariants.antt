use Rattle.std.proofs.Common.{◌≡◌, ◌++◌, take, drop, map, length}
use Rattle.eos_notes.specs.steps.Replaced.{renamed}
use Rattle.eos_notes.proofs.replaced.with_epochs.Given as goal

abbrev pub invariant-loop-commit : goal.invariant-loop-commit
invariant-loop-commit l = record {
  moved : l.commit-items ≡ map renamed (take l.commit-index l.fn.commits.items) ++ drop l.commit-index l.fn.commits.items;
  all : length l.commit-items ≡ length l.fn.commits.items;
}
