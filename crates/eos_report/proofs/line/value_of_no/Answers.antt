use Rattle.std.proofs.Common.{◌∙◌, ap, codes}
use Rattle.serde_json.specs.Data.{Members, object, put, string}
use Rattle.eos_verdict.specs.FaultTexts.{fault_text}
use Rattle.eos_report.specs.FaultValues.{fault_value}
use Rattle.eos_report.proofs.line.value_of_no.Goals as goal

-- in the order of their names
pub returns : goal.returns
returns c =
    let fault = c.args.fault.now in
    c.into_value.ensures
    ∙ ap object (c.in_ok-put_no.ensures
    ∙ ap (λ (ms : Members). put (codes "fields") (fault_value fault) (put (codes "answer") (string (codes "no")) (put (codes "fault") (string (fault_text fault)) ms))) c.new-made.ensures)
