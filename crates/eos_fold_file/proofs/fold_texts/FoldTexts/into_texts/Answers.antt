use Rattle.std.proofs.Common.{map, sym, ap, subst, ◌∙◌}
use Rattle.std.specs.Prelude.{All}
use Rattle.eos_reading.specs.Records.{ReadsBack}
use Rattle.eos_fold_file.specs.Records.{FoldText}
use Rattle.eos_fold_file.specs.steps.Kept.{text_record}
use Rattle.eos_fold_file.proofs.TextsListed.{none_unsaid, handed_over}
use Rattle.eos_fold_file.proofs.fold_texts.FoldTexts.into_texts.Goals as goal

pub returns : goal.returns
returns c =
    let rs = c.self.inside.texts.list in
    let cs = c.self.inside.unsaid.items in
    let P : FoldText → Type 0 = λ t. ReadsBack t.claim in
    let none = none_unsaid rs cs c.self.invariant.few c.self.invariant.unsaid (subst (All P) (sym c.self.view_is) c.requires) in
    handed_over rs cs c.self.invariant.bare none ∙ ap (map text_record) c.self.view_is
