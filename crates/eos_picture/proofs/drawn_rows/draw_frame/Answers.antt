use Rattle.std.proofs.Common.{◌∙◌}
use Rattle.std.proofs.lemmas.Result.{on_ok_weaker}
use Rattle.eos_picture.proofs.drawn_rows.draw_frame.Goals as goal

pub returns : goal.returns
returns c = on_ok_weaker c.line.result (λ e. e ∙ c.in_ok-text.ensures) c.line.ensures
