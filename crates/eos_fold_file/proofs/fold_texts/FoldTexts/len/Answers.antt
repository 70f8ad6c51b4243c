use Rattle.std.proofs.Common.{◌≡◌, length, sym, ap, ◌∙◌, rules}
use Rattle.eos_fold_file.proofs.TextsListed.{texts_length}
use Rattle.eos_fold_file.proofs.fold_texts.FoldTexts.len.Goals as goal

pub returns : goal.returns
returns c =
    let n : c.len.result ≡ length c.self.inside.texts.list = search rules in
    n ∙ (sym (texts_length c.self.inside.texts.list c.self.inside.unsaid.items) ∙ ap length c.self.view_is)
