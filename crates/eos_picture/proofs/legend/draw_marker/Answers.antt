use Rattle.std.proofs.Common.{◌∙◌}
use Rattle.std.proofs.lemmas.Result.{on_ok_weaker}
use Rattle.eos_picture.proofs.legend.draw_marker.Goals as goal

pub returns : goal.returns
returns c = on_ok_weaker c.words.result (λ e. e ∙ c.in_ok-diamond.ensures) c.words.ensures
