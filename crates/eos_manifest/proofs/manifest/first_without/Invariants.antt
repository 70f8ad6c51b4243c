-- The first without an end is the first of those that are left.
use Rattle.std.proofs.Common.{◌≡◌, drop}
use Rattle.eos_manifest.specs.Manifests.{first_without}
use Rattle.eos_manifest.proofs.manifest.first_without.Given as goal

abbrev pub invariant-loop-name : goal.invariant-loop-name
invariant-loop-name l = first_without l.ends l.names ≡ first_without l.ends (drop l.name-index l.names)
