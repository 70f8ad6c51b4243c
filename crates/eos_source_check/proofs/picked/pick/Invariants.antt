use Rattle.std.proofs.Common.{◌≡◌, ◌≤◌, length}
use Rattle.eos_source_check.specs.steps.Picking.{ArePickedSoFar}
use Rattle.eos_source_check.proofs.picked.pick.Given as goal

abbrev pub invariant-loop-i : goal.invariant-loop-i
invariant-loop-i l = (l.taken ≤ length l.buffer) × (length l.found.items ≡ length l.fn.found.items) × ArePickedSoFar l.i l.passed l.buffer l.wanted l.fn.found.items l.found.items l.taken
