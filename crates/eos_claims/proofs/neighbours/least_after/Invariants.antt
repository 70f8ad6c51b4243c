use Rattle.std.proofs.Common.{◌≡◌, option_map, fold, drop, map}
use Rattle.eos_base.specs.Least.{lesser_of}
use Rattle.eos_claims.specs.Candidates.{runs_after}
use Rattle.eos_claims.specs.Faults.{fault_cmp}
use Rattle.eos_claims.specs.Plain.{plain_fault, plain_claim}
use Rattle.eos_claims.proofs.neighbours.least_after.Given as goal

-- what is left to fold over
abbrev pub invariant-loop-next : goal.invariant-loop-next
invariant-loop-next l =
    fold (lesser_of fault_cmp) (option_map plain_fault l.best) (runs_after (plain_claim l.claim) (map plain_claim (drop l.next-index l.claims)))
    ≡ fold (lesser_of fault_cmp) (option_map plain_fault l.fn.best) (runs_after (plain_claim l.first) (map plain_claim l.claims))
