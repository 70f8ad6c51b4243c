use Rattle.std.proofs.Common.{◌≡◌, map, take}
use Rattle.eos_source_check.specs.steps.Apart.{counted_as}
use Rattle.eos_source_check.proofs.kept.counted_in.Given as goal

abbrev pub invariant-loop-tally : goal.invariant-loop-tally
invariant-loop-tally l = l.all.items ≡ map counted_as (take l.tally-index l.tallies)
