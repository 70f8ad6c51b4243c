use Rattle.std.proofs.Common.{◌≡◌, take}
use Rattle.std.specs.List.{filter}
use Rattle.eos_manifest.specs.Manifests.{is_wanted}
use Rattle.eos_manifest.proofs.manifest.wanted_ends.Given as goal

abbrev pub invariant-loop-end : goal.invariant-loop-end
invariant-loop-end l = l.wanted.items ≡ filter (is_wanted l.apps l.required) (take l.end-index l.ends)
