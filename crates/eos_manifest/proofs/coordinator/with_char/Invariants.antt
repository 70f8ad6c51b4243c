use Rattle.std.proofs.Common.{◌≡◌, ◌%◌, ◌^◌, ◌++◌, ℕ, List, take}
use Rattle.std.specs.Char.Escape.{encode_utf16}
use Rattle.eos_manifest.specs.Coordinators.{weighted}
use Rattle.eos_manifest.proofs.coordinator.with_char.Given as goal

abbrev pub invariant-loop-unit : goal.invariant-loop-unit
invariant-loop-unit l = (l.units ≡ encode_utf16 l.fn.c)
    × ((us : List ℕ) → l.fn.hash ≡ weighted us % 2 ^ 32 → l.bits ≡ weighted (us ++ take l.unit-index l.units) % 2 ^ 32)
