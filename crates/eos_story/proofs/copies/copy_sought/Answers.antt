use Rattle.std.proofs.Common.{ℕ, List, ap, sym, ◌∙◌, rules, w16, w64, FitsSigned}
use Rattle.std.proofs.lemmas.Int.{to_z-of_z}
use Rattle.eos_claims.specs.declared.place.Place.{Place}
use Rattle.eos_sought.specs.declared.sought.Sought.TheVariants.{At, Claiming, Hidden, Alike, OfId, Before, OfGroup, Passing, UpTo, Passed}
use Rattle.eos_story.proofs.copies.copy_sought.Goals as goal

pub returns-in_ok-copy_place-in-At : goal.returns-in_ok-copy_place-in-At
returns-in_ok-copy_place-in-At c = ap (λ (p : Place). At p) c.in_ok-copy_place-in-At.ensures ∙ sym c.in-At.is

pub returns-in_ok-copy_place-in-Claiming : goal.returns-in_ok-copy_place-in-Claiming
returns-in_ok-copy_place-in-Claiming c = ap (λ (p : Place). Claiming p) c.in_ok-copy_place-in-Claiming.ensures ∙ sym c.in-Claiming.is

pub returns-in_ok-copy_place-in-Hidden : goal.returns-in_ok-copy_place-in-Hidden
returns-in_ok-copy_place-in-Hidden c = ap (λ (p : Place). Hidden p) c.in_ok-copy_place-in-Hidden.ensures ∙ sym c.in-Hidden.is

pub returns-in_ok-copy_place-in-Passed : goal.returns-in_ok-copy_place-in-Passed
returns-in_ok-copy_place-in-Passed c = ap (λ (p : Place). Passed p) c.in_ok-copy_place-in-Passed.ensures ∙ sym c.in-Passed.is

pub returns-in_ok-copy_place-in-Alike : goal.returns-in_ok-copy_place-in-Alike
returns-in_ok-copy_place-in-Alike c = ap (λ (p : Place). Alike p c.in-Alike.output) c.in_ok-copy_place-in-Alike.ensures ∙ sym c.in-Alike.is

pub returns-in_ok-clone-in-OfId : goal.returns-in_ok-clone-in-OfId
returns-in_ok-clone-in-OfId c = ap (λ (b : List ℕ). OfId b) c.in_ok-clone-in-OfId.ensures.cases ∙ sym c.in-OfId.is

pub returns-in_ok-clone-in-OfGroup : goal.returns-in_ok-clone-in-OfGroup
returns-in_ok-clone-in-OfGroup c = ap (λ (b : List ℕ). OfGroup b) c.in_ok-clone-in-OfGroup.ensures.cases ∙ sym c.in-OfGroup.is

pub returns-in_ok-copy_place-in-Before : goal.returns-in_ok-copy_place-in-Before
returns-in_ok-copy_place-in-Before c = ap (λ (b : List ℕ). Before b c.in_ok-copy_place-in-Before.field-0) c.in_ok-clone-in-Before.ensures.cases ∙ (ap (λ (p : Place). Before c.in-Before.id p) c.in_ok-copy_place-in-Before.ensures ∙ sym c.in-Before.is)

pub returns-in_ok-copy_place-in-Passing : goal.returns-in_ok-copy_place-in-Passing
returns-in_ok-copy_place-in-Passing c = ap (λ (b : List ℕ). Passing b c.in_ok-copy_place-in-Passing.field-0) c.in_ok-clone-in-Passing.ensures.cases ∙ (ap (λ (p : Place). Passing c.in-Passing.group p) c.in_ok-copy_place-in-Passing.ensures ∙ sym c.in-Passing.is)

pub returns-in_ok-copy_place-in-UpTo : goal.returns-in_ok-copy_place-in-UpTo
returns-in_ok-copy_place-in-UpTo c = ap (λ (b : List ℕ). UpTo b c.in_ok-copy_place-in-UpTo.field-0) c.in_ok-clone-in-UpTo.ensures.cases ∙ (ap (λ (p : Place). UpTo c.in-UpTo.group p) c.in_ok-copy_place-in-UpTo.ensures ∙ sym c.in-UpTo.is)

pub returns-in-Within : goal.returns-in-Within
returns-in-Within c = sym c.in-Within.is

pub returns-in-Deciding : goal.returns-in-Deciding
returns-in-Deciding c =
    let producer : FitsSigned w64 c.in-Deciding.producer = search rules in
    let epoch : FitsSigned w16 c.in-Deciding.epoch = search rules in
    simp to_z-of_z (sym c.in-Deciding.is)
