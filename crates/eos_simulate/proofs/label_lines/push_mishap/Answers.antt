use Rattle.std.proofs.Common.{◌∙◌, ap}
use Rattle.eos_text.proofs.Appended.{then}
use Rattle.eos_text.specs.Adding.{Adds}
use Rattle.eos_simulate.specs.LabelTexts.{mishap_codes, mishap_text}
use Rattle.eos_simulate.proofs.label_lines.push_mishap.Goals as goal

pub returns : goal.returns
unfolding mishap_text
returns c =
    let codes_are = rw (c.mishap_codes.ensures ∙ ap mishap_codes c.name_in.ensures) at c.in_ok-push_value.ensures in
    let json = rw (c.as_str.ensures.value ∙ c.in_ok-json.ensures) at c.in_ok-push_value-2.ensures in
    let line : Adds _ _ (mishap_text c.args.number c.utf8_or_empty-word.result.now) = then codes_are (then json (then c.in_ok-push_value-3.ensures c.in_ok-push_text.ensures)) in
    rw c.utf8_or_empty-word.ensures at line
