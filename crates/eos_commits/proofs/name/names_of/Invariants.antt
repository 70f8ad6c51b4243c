use Rattle.std.proofs.Common.{◌≡◌, take, map}
use Rattle.eos_fold.specs.Parts.{part_name}
use Rattle.eos_commits.proofs.name.names_of.Given as goal

abbrev pub invariant-loop-part : goal.invariant-loop-part
invariant-loop-part l = l.names.items ≡ map part_name (take l.part-index l.parts)
