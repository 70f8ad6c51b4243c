use Rattle.std.proofs.Common.{◌≡◌, map, take}
use Rattle.eos_source_check.specs.steps.PicksAgain.{byte_in}
use Rattle.eos_source_check.proofs.picks.bytes_in.Given as goal

abbrev pub invariant-loop-place : goal.invariant-loop-place
invariant-loop-place l = l.bytes.items ≡ map (byte_in l.base) (take l.place-index l.places)
