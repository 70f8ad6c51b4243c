use Rattle.std.proofs.Common.{◌≡◌, subst, false}
use Rattle.eos_base.proofs.Decides.{differs}
use Rattle.eos_claims.specs.Plain.{plain_place}
use Rattle.eos_claims.specs.Candidates.{is_input, is_committed}
use Rattle.eos_claims.proofs.ClaimTests.{is_input_has}
use Rattle.eos_lineage.proofs.tables.is_committed.Goals as goal

pub returns-in-None : goal.returns-in-None
returns-in-None c = λ a are has.
    let unknown = subst (λ i. is_input a i ≡ false) c.source_at-source.ensures (c.in-None.ensures a are) in
    absurd (differs (is_input a (plain_place c.args.input.now)) unknown (is_input_has a (plain_place c.args.input.now) has))

pub returns-in-Some : goal.returns-in-Some
returns-in-Some c = λ a are has. subst (λ i. c.in-Some.known.is_committed ≡ is_committed a i) c.source_at-source.ensures (c.in-Some.ensures a are).2
