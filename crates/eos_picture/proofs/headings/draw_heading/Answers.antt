use Rattle.std.proofs.Common.{◌∙◌}
use Rattle.std.proofs.lemmas.Result.{on_ok_weaker}
use Rattle.eos_picture.proofs.headings.draw_heading.Goals as goal

pub returns : goal.returns
returns c = on_ok_weaker c.text-3.result (λ e. e ∙ (c.in_ok-text-2.ensures ∙ c.in_ok-text.ensures)) c.text-3.ensures
