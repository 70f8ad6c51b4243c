use Rattle.std.proofs.Common.{string_bytes, subst}
use Rattle.std.proofs.lemmas.Result.{IfOk-weaker}
use Rattle.eos_report.specs.steps.Texts.{IsTextOf}
use Rattle.eos_report.proofs.LastCalls.{both}
use Rattle.eos_report.proofs.json_report.frame_of.Goals as goal

pub returns : goal.returns
returns c =
    let value = c.in_ok-value.ensures in
    let text = c.to_string-text.result in
    let wrote = c.to_string-text.ensures in
    IfOk-weaker text _ _
    (λ s is. record {
      seconds = value.0;
      are = value.1;
      is = subst (λ d. IsTextOf d (string_bytes s)) value.2
          (record { printed = is.0; order = is.1.0; reads = is.1.1 });
    })
    (both _ _ text wrote.compact (both _ _ text wrote.order wrote.reads_back))
