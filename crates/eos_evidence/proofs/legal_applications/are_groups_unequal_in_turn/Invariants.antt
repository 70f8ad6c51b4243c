use Rattle.std.proofs.Common.{◌≡◌, drop}
use Rattle.eos_evidence.specs.Topics.{are_unequal}
use Rattle.eos_evidence.specs.SpecFields.{groups_of}
use Rattle.eos_evidence.proofs.legal_applications.are_groups_unequal_in_turn.Given as goal

abbrev pub invariant-loop-i : goal.invariant-loop-i
invariant-loop-i l = are_unequal (groups_of l.apps) ≡ are_unequal (groups_of (drop l.i l.apps))
