use Rattle.std.proofs.Common.{Option, Vec, Global}
use Rattle.eos_claims.specs.declared.found.Found.{Found}
use Rattle.eos_claims.specs.declared.neighbours.NumberedClaim.{NumberedClaim}
use Rattle.eos_lineage.specs.declared.claims.Walk.{Walk}
use Rattle.eos_claims.specs.Plain.{plain_lent}
use Rattle.eos_lineage.specs.steps.Walks.{plain_walk, plain_placed}
use Rattle.eos_lineage.proofs.ClaimWalk.{took, on_ok}
use Rattle.eos_lineage.proofs.claims.take_claim.Goals as goal

abbrev walk_of : Option Found → Vec NumberedClaim Global → Walk
walk_of best below = record { best = best; below = below }

pub returns : goal.returns
returns c = λ a are.
    let known = c.known_of-known.ensures a are in
    let tests = c.tests_of-tests.ensures a are known in
    on_ok c.keep_below.result _ _ (λ below. took a (plain_walk c.args.walk.now) (plain_walk (walk_of c.least_of_claim-walk.result c.keep_below.new.below)) (plain_placed c.args.placed.now) (plain_lent c.lent_of-lent.result)
    c.known_of-known.result c.tests_of-tests.result c.lent_of-lent.ensures known tests c.least_of_claim-walk.ensures below) c.keep_below.ensures
