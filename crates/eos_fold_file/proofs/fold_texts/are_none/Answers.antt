use Rattle.std.proofs.Common.{◌≡◌, Option, None, subst, rules}
use Rattle.eos_claims.specs.declared.claim.Claim.{Claim}
use Rattle.eos_fold_file.proofs.EachSoFar.{one_more, at_end}
use Rattle.eos_fold_file.proofs.fold_texts.are_none.Goals as goal

pub loop-claim-preserved : goal.loop-claim-preserved
loop-claim-preserved c =
    let P : Option Claim → Type 0 = λ claim. claim ≡ None in
    let none : c.claim-item.result ≡ None = search rules in
    one_more P c.args.claims.now c.loop-claim.claim-index c.claim-item.result c.loop-claim-test.true c.loop-claim.invariant (subst P c.claim-item.is none)

pub returns-clause-yes : goal.returns-clause-yes
returns-clause-yes c = λ t. at_end (λ (claim : Option Claim). claim ≡ None) c.args.claims.now c.loop-claim.claim-index c.loop-claim-test.false c.loop-claim.invariant
