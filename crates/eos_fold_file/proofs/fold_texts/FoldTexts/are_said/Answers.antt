use Rattle.std.proofs.Common.{◌≡◌, Option, None, sym, subst}
use Rattle.std.specs.Prelude.{All}
use Rattle.eos_claims.specs.declared.claim.Claim.{Claim}
use Rattle.eos_reading.specs.Records.{ReadsBack}
use Rattle.eos_fold_file.specs.Records.{FoldText}
use Rattle.eos_fold_file.proofs.TextsListed.{all_said, none_unsaid}
use Rattle.eos_fold_file.proofs.fold_texts.FoldTexts.are_said.Goals as goal

pub returns-clause-yes : goal.returns-clause-yes
returns-clause-yes c = λ t.
    let P : FoldText → Type 0 = λ text. ReadsBack text.claim in
    let N : Option Claim → Type 0 = λ claim. claim ≡ None in
    let none : All N c.self.inside.unsaid.items = subst (All N) c.as_slice.ensures.value (c.are_none.ensures.yes t) in
    subst (All P) c.self.view_is (all_said c.self.inside.texts.list c.self.inside.unsaid.items c.self.invariant.bare none)

pub returns-clause-no : goal.returns-clause-no
returns-clause-no c = λ back.
    let P : FoldText → Type 0 = λ text. ReadsBack text.claim in
    let N : Option Claim → Type 0 = λ claim. claim ≡ None in
    let none = none_unsaid c.self.inside.texts.list c.self.inside.unsaid.items c.self.invariant.few c.self.invariant.unsaid (subst (All P) (sym c.self.view_is) back) in
    c.are_none.ensures.no (subst (All N) (sym c.as_slice.ensures.value) none)
