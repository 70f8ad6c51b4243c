use Rattle.std.proofs.Common.{◌≡◌, drop, fold}
use Rattle.eos_commits.specs.steps.Gathered.{take_part, empty}
use Rattle.eos_commits.specs.steps.Lent.{plain_gathering}
use Rattle.eos_commits.proofs.gathering.gather.Given as goal

-- what is left to take
abbrev pub invariant-loop-part : goal.invariant-loop-part
invariant-loop-part l = fold (take_part l.roles) (plain_gathering l.gathering) (drop l.part-index l.parts) ≡ fold (take_part l.roles) empty l.parts
