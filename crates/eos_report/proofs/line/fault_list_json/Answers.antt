use Rattle.std.proofs.Common.{◌∙◌}
use Rattle.eos_text.proofs.Appended.{then}
use Rattle.eos_report.specs.Lines.{count_json_line}
use Rattle.eos_report.proofs.Fresh.{fresh}
use Rattle.eos_report.proofs.line.fault_list_json.Goals as goal

pub returns : goal.returns
unfolding count_json_line
returns c =
    let count = rw (c.as_str.ensures.value ∙ c.in_ok-count.ensures) at c.in_ok-push_text-2.ensures in
    let counted = then c.in_ok-push_text.ensures (then count c.in_ok-push_text-3.ensures) in
    fresh c.new-text.ensures.bytes (then c.in_ok-push_json_lines.ensures counted)
