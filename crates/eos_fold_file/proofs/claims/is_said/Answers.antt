use Rattle.std.proofs.Common.{◌^◌, Option, sym, subst, arith, rules, w32, FitsSigned}
use Rattle.std.specs.Prelude.{option_map}
use Rattle.std.proofs.lemmas.Bool.{ltb-true, lt-ltb}
use Rattle.std.proofs.lemmas.Int.{ints}
use Rattle.eos_claims.specs.declared.claim.ClaimRef.{ClaimRef}
use Rattle.eos_claims.specs.Slots.{plain_claim}
use Rattle.eos_reading.specs.Records.{ReadsBack}
use Rattle.eos_fold_file.proofs.ClaimLimits.{IsSmall, small_back, said_small, none_back}
use Rattle.eos_fold_file.proofs.claims.is_said.Goals as goal

pub returns-in_default-clause-yes : goal.returns-in_default-clause-yes
returns-in_default-clause-yes c = λ t. subst (λ (o : Option ClaimRef). ReadsBack (option_map plain_claim o)) (sym c.in_default.is) none_back

pub returns-then-claim-lt0-clause-no : goal.returns-then-claim-lt0-clause-no
returns-then-claim-lt0-clause-no c = λ back.
    let small = said_small (plain_claim c.in-Some.claim) (subst (λ (o : Option ClaimRef). ReadsBack (option_map plain_claim o)) c.in-Some.is back) in
    absurd (omega (arith, ints, small.partition, c.if-claim-lt0.true))

pub returns-then-claim-clause-no : goal.returns-then-claim-clause-no
returns-then-claim-clause-no c = λ back.
    let small = said_small (plain_claim c.in-Some.claim) (subst (λ (o : Option ClaimRef). ReadsBack (option_map plain_claim o)) c.in-Some.is back) in
    absurd (omega (arith, small.offset, c.if-claim.true))

pub returns-then-claim-2-clause-yes : goal.returns-then-claim-2-clause-yes
returns-then-claim-2-clause-yes c = λ t.
    let claim = plain_claim c.in-Some.claim in
    let fits : FitsSigned w32 claim.partition = search rules in
    let small : IsSmall claim = record {
      partition = omega (arith, ints, c.if-claim-lt0.false);
      offset = omega (arith, c.if-claim.false);
      output = omega (arith, c.if-claim-2.true);
      count = ltb-true claim.of (2 ^ 31) t;
    } in
    subst (λ (o : Option ClaimRef). ReadsBack (option_map plain_claim o)) (sym c.in-Some.is) (small_back claim fits small)

pub returns-then-claim-2-clause-no : goal.returns-then-claim-2-clause-no
returns-then-claim-2-clause-no c = λ back.
    let claim = plain_claim c.in-Some.claim in
    let small = said_small claim (subst (λ (o : Option ClaimRef). ReadsBack (option_map plain_claim o)) c.in-Some.is back) in
    lt-ltb claim.of (2 ^ 31) small.count

pub returns-else-claim-2-clause-no : goal.returns-else-claim-2-clause-no
returns-else-claim-2-clause-no c = λ back.
    let claim = plain_claim c.in-Some.claim in
    let small = said_small claim (subst (λ (o : Option ClaimRef). ReadsBack (option_map plain_claim o)) c.in-Some.is back) in
    lt-ltb claim.output (2 ^ 31) small.output
