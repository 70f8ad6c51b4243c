use Rattle.std.proofs.Common.{◌∙◌}
use Rattle.eos_report.specs.Lines.{fault_json_line}
use Rattle.eos_report.proofs.LastCalls.{last}
use Rattle.eos_report.proofs.line.push_json_line.Goals as goal

pub returns : goal.returns
unfolding fault_json_line
returns c =
    let object = rw (c.as_str.ensures.value ∙ c.in_ok-object.ensures) at c.in_ok-push_text-2.ensures in
    last _ _ _ c.in_ok-push_text.ensures (last _ _ _ object c.push_text-3.ensures)
