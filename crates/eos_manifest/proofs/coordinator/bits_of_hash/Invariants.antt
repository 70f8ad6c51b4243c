use Rattle.std.proofs.Common.{◌≡◌, ◌%◌, ◌^◌, flat_map}
use Rattle.std.specs.Char.Escape.{encode_utf16}
use Rattle.eos_manifest.specs.Coordinators.{weighted}
use Rattle.eos_manifest.proofs.coordinator.bits_of_hash.Given as goal

abbrev pub invariant-loop-c : goal.invariant-loop-c
invariant-loop-c l = l.hash ≡ weighted (flat_map encode_utf16 l.yielded) % 2 ^ 32
