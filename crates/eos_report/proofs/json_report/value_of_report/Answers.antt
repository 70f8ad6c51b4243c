use Rattle.std.proofs.Common.{◌∙◌}
use Rattle.eos_report.proofs.json_report.value_of_report.Goals as goal

pub returns : goal.returns
returns c =
    let held = c.in_ok-put_report.ensures in
    (held.0, held.1, c.into_value.ensures ∙ held.2)
