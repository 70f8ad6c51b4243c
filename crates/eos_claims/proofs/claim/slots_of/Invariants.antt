use Rattle.std.proofs.Common.{◌≡◌, fold, take}
use Rattle.eos_claims.specs.steps.Slots.{keep, blank, plain_slots}
use Rattle.eos_claims.proofs.claim.slots_of.Given as goal

abbrev pub invariant-loop-header : goal.invariant-loop-header
invariant-loop-header l = plain_slots l.slots ≡ fold keep blank (take l.header-index l.headers)
