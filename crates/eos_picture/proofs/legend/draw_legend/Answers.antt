use Rattle.std.proofs.Common.{◌∙◌}
use Rattle.std.proofs.lemmas.Result.{on_ok_weaker}
use Rattle.eos_picture.proofs.legend.draw_legend.Goals as goal

pub returns : goal.returns
returns c =
    let samples = c.in_ok-draw_sample-3.ensures ∙ (c.in_ok-draw_sample-2.ensures ∙ c.in_ok-draw_sample.ensures) in
    let markers = c.in_ok-draw_marker-3.ensures ∙ (c.in_ok-draw_marker-2.ensures ∙ (c.in_ok-draw_marker.ensures ∙ samples)) in
    on_ok_weaker c.draw_sample-5.result (λ e. e ∙ (c.in_ok-draw_sample-4.ensures ∙ markers)) c.draw_sample-5.ensures
