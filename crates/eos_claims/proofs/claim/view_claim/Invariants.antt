use Rattle.std.proofs.Common.{◌≡◌, fold, length}
use Rattle.eos_claims.specs.steps.Slots.{keep, blank, plain_slots}
use Rattle.eos_claims.proofs.claim.view_claim.Given as goal

-- what is left to keep
abbrev pub invariant-loop-header : goal.invariant-loop-header
invariant-loop-header l = fold keep (plain_slots l.slots) l.headers ≡ fold keep blank l.fn.headers

abbrev pub decreases-loop-header : goal.decreases-loop-header
decreases-loop-header l = length l.headers
