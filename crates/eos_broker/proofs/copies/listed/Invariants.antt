use Rattle.std.proofs.Common.{◌≡◌, ◌++◌, drop}
use Rattle.eos_machine.specs.LogIndexes.{listed}
use Rattle.eos_broker.specs.steps.Listing.{rest_of}
use Rattle.eos_broker.proofs.copies.listed.Given as goal

abbrev pub invariant-loop-i : goal.invariant-loop-i
invariant-loop-i l = listed l.place l.places ≡ l.all.items ++ rest_of l.is_placed l.place (drop l.i l.places)
