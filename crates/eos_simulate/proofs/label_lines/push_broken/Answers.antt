use Rattle.std.proofs.Common.{◌∙◌, ap}
use Rattle.eos_machine.specs.LogIndexes.{topic_of, number_of}
use Rattle.eos_text.proofs.Appended.{then}
use Rattle.eos_simulate.specs.LabelTexts.{broken_text}
use Rattle.eos_simulate.proofs.label_lines.push_broken.Goals as goal

pub returns : goal.returns
unfolding broken_text
returns c =
    let codes_are = simp c.rule_codes.ensures at c.in_ok-push_value.ensures in
    let topic = rw (c.as_slice.ensures ∙ (c.topic_of-topic.ensures ∙ ap (λ config. topic_of config c.args.taken.place) c.config-config.ensures.value)) at c.in_ok-push_escaped.ensures in
    let number = rw (c.number_of.ensures ∙ ap (λ config. number_of config c.args.taken.place) c.config-config.ensures.value) at c.in_ok-push_value-5.ensures in
    let name = simp c.name.ensures at c.in_ok-push_value-6.ensures in
    then codes_are (then c.in_ok-push_value-2.ensures (then c.in_ok-push_value-3.ensures (then c.in_ok-push_value-4.ensures
    (then topic (then number (then name c.in_ok-push_text.ensures))))))
