use Rattle.std.proofs.Common.{◌≡◌, length, fold}
use Rattle.eos_commits.specs.steps.Gathered.{take_item}
use Rattle.eos_commits.specs.steps.Lent.{plain_gathering}
use Rattle.eos_commits.proofs.gathering.take_part.Given as goal

-- what is left to take
abbrev pub invariant-loop-item : goal.invariant-loop-item
invariant-loop-item l = fold (take_item l.roles.sources l.part l.role) (plain_gathering l.gathering) l.records ≡ fold (take_item l.roles.sources l.part l.role) (plain_gathering l.fn.gathering) l.part.items

abbrev pub decreases-loop-item : goal.decreases-loop-item
decreases-loop-item l = length l.records
