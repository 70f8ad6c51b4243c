use Rattle.std.proofs.Common.{rules, sym, ap, ◌∙◌}
use Rattle.eos_drive.specs.Driven.{after_deed}
use Rattle.eos_simulate.proofs.Labelled.{followed}
use Rattle.eos_simulate.proofs.labels.follow.Goals as goal

pub returns-else-is_left_out : goal.returns-else-is_left_out
returns-else-is_left_out c =
    followed c.args.cluster.now c.step.new.self c.in-Asked.event c.in_ok-clone-in-Asked.field-0 c.step.result c.step.result c.step.ensures.switched (search rules) (search rules) ∙ ap (after_deed c.args.cluster.now) (sym c.in-Asked.is)
