use Rattle.std.proofs.Common.{rules, to_z-of_z, w64, sym, ◌∙◌}
use mir.Val.{SFits}
use Rattle.eos_text.proofs.Appended.{then}
use Rattle.eos_segment.specs.Choosing.{chosen_record}
use Rattle.eos_segment.proofs.chosen.push_chosen.Goals as goal

pub returns-in_ok-push_content : goal.returns-in_ok-push_content
unfolding chosen_record
returns-in_ok-push_content c =
    let fits : SFits w64 c.args.placed.offset = search rules in
    let asked = simp (to_z-of_z, fits) at c.ask_for.ensures in
    let line = simp (to_z-of_z, fits) at c.in_ok-push_record.ensures in
    rw (sym asked ∙ c.if-ask_for.true) (then line (then c.in_ok-push_its_headers.ensures c.in_ok-push_content.ensures))
