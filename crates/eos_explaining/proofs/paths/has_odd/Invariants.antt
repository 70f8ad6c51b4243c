use Rattle.std.proofs.Common.{◌≡◌, drop}
use Rattle.std.specs.List.{list_any}
use Rattle.eos_explaining.specs.Commands.{is_odd}
use Rattle.eos_explaining.proofs.paths.has_odd.Given as goal

abbrev pub invariant-loop-byte : goal.invariant-loop-byte
invariant-loop-byte l = list_any is_odd l.bytes ≡ list_any is_odd (drop l.byte-index l.bytes)
