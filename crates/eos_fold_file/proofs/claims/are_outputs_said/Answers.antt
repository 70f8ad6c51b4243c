use Rattle.std.proofs.Common.{◌≡◌, true, subst, rules}
use Rattle.eos_reading.specs.Outputs.{KeptOutput, claim_kept}
use Rattle.eos_reading.specs.Records.{ReadsBack}
use Rattle.eos_fold_file.proofs.EachSoFar.{one_more, at_end}
use Rattle.eos_fold_file.proofs.claims.are_outputs_said.Goals as goal

pub loop-output-preserved : goal.loop-output-preserved
loop-output-preserved c =
    let topics = c.args.topics.now in
    let said : c.is_said.result ≡ true = search rules in
    let here : ReadsBack (claim_kept topics c.output-item.result) = subst ReadsBack c.claim.ensures (c.is_said.ensures.yes said) in
    one_more (λ (one : KeptOutput). ReadsBack (claim_kept topics one)) c.args.outputs.now c.loop-output.output-index c.output-item.result c.loop-output-test.true c.loop-output.invariant
    (subst (λ (one : KeptOutput). ReadsBack (claim_kept topics one)) c.output-item.is here)

pub returns-clause-yes : goal.returns-clause-yes
returns-clause-yes c = λ t. at_end (λ (one : KeptOutput). ReadsBack (claim_kept c.args.topics.now one)) c.args.outputs.now c.loop-output.output-index c.loop-output-test.false c.loop-output.invariant
