use Rattle.std.proofs.Common.{◌≡◌, map, ap, ◌∙◌}
use Rattle.eos_fold_file.specs.Folds.{fold_text_of}
use Rattle.eos_fold_file.specs.steps.TextLists.{texts_of}
use Rattle.eos_fold_file.proofs.TextsListed.{none_beside}
use Rattle.eos_fold_file.proofs.fold_texts.FoldTexts.of.Goals as goal

pub returns : goal.returns
returns c =
    let rs = c.args.texts.list in
    let h : texts_of rs c.new.result.items ≡ map fold_text_of rs = ap (texts_of rs) c.new.ensures.items ∙ none_beside rs in
    h
