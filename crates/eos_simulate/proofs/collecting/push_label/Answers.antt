use Rattle.std.proofs.Common.{◌∙◌}
use Rattle.eos_text.proofs.Appended.{then}
use Rattle.eos_simulate.specs.MistakeTexts.{collected_text}
use Rattle.eos_simulate.proofs.collecting.push_label.Goals as goal

pub returns : goal.returns
unfolding collected_text
returns c =
    let codes_are = rw c.codes_of.ensures at c.in_ok-push_value.ensures in
    let said = rw (c.as_str.ensures.value ∙ c.in_ok-word.ensures) at c.in_ok-json.ensures in
    let json = rw (c.as_str-2.ensures.value ∙ said) at c.in_ok-push_value-2.ensures in
    then codes_are (then json c.in_ok-push_text.ensures)
