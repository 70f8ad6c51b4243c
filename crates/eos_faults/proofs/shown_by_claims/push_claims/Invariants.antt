use Rattle.std.proofs.Common.{◌≡◌, ◌++◌, take, map, flat_map}
use Rattle.eos_claims.specs.declared.place.Place.{Place}
use Rattle.eos_claims.specs.Outputs.{Application}
use Rattle.eos_faults.specs.steps.OutputFaultsGathered.{shown_at}
use Rattle.eos_faults.specs.steps.Plain.{claim_at, fault_of}
use Rattle.eos_faults.specs.steps.SourceClaims.{AreClaimsOf, IsFirstSoFar}
use Rattle.eos_faults.specs.steps.Tables.{AreTables, IsKnown}
use Rattle.eos_faults.proofs.shown_by_claims.push_claims.Given as goal

abbrev pub invariant-loop-claim : goal.invariant-loop-claim
invariant-loop-claim l =
    (a : Application) (i : Place) → AreTables a l.tables → IsKnown a i l.known → AreClaimsOf a i l.claims
    → (map fault_of l.faults.items ≡ map fault_of l.fn.faults.items ++ flat_map (shown_at a) (map claim_at (take l.claim-index l.claims))) × IsFirstSoFar a i l.claims l.claim-index l.numbered
