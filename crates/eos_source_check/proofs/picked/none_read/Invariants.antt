use Rattle.std.proofs.Common.{◌≡◌, ◌++◌, [], map, drop}
use Rattle.eos_source_check.specs.steps.Picking.{told_at}
use Rattle.eos_source_check.proofs.picked.none_read.Given as goal

abbrev pub invariant-loop-byte : goal.invariant-loop-byte
invariant-loop-byte l = l.found.items ++ map (told_at []) (drop l.byte-index l.wanted) ≡ map (told_at []) l.wanted
