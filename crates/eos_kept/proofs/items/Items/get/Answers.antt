use Rattle.std.proofs.Common.{◌∙◌, Some, ap, sym}
use Rattle.std.proofs.lemmas.Result.{IfOk-weaker}
use Rattle.eos_kept.proofs.items.Items.get.Goals as goal

pub returns : goal.returns
returns c = IfOk-weaker c.to_item.result _ _ (λ item e. c.view.ensures ∙ ap Some (sym e)) c.to_item.ensures
