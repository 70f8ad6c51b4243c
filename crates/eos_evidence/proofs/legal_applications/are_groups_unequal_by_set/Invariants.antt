use Rattle.std.proofs.Common.{◌≡◌, take}
use Rattle.eos_evidence.specs.SpecFields.{groups_of}
use Rattle.eos_evidence.proofs.legal_applications.are_groups_unequal_by_set.Given as goal

abbrev pub invariant-loop-app : goal.invariant-loop-app
invariant-loop-app l = l.groups.items ≡ groups_of (take l.app-index l.apps)
