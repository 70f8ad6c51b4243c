use Rattle.std.proofs.Common.{◌≡◌, drop}
use Rattle.std.specs.List.{list_any}
use Rattle.eos_explaining.specs.Commands.{is_unsaid}
use Rattle.eos_explaining.proofs.paths.has_unsaid.Given as goal

abbrev pub invariant-loop-byte : goal.invariant-loop-byte
invariant-loop-byte l = list_any is_unsaid l.bytes ≡ list_any is_unsaid (drop l.byte-index l.bytes)
