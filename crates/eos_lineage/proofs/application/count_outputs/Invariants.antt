use Rattle.std.proofs.Common.{◌≡◌, ◌≤◌, take, map, length}
use Rattle.std.specs.List.{filter}
use Rattle.eos_claims.specs.Plain.{plain_claim}
use Rattle.eos_lineage.specs.steps.Walks.{is_no_note}
use Rattle.eos_lineage.proofs.application.count_outputs.Given as goal

abbrev pub invariant-loop-claim : goal.invariant-loop-claim
invariant-loop-claim l = (l.count ≤ l.claim-index) × (l.count ≡ length (filter is_no_note (map plain_claim (take l.claim-index l.claims))))
