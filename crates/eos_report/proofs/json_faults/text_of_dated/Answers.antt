use Rattle.std.proofs.Common.{◌≡◌, ◌≤◌, ◌∙◌, false, ap, subst, sym, string_bytes, Some}
use Rattle.std.proofs.lemmas.Result.{IfOk-weaker}
use Rattle.serde_json.specs.Data.{depth}
use Rattle.serde_json.specs.Read.{max_depth}
use Rattle.serde_json.specs.Written.{has_float, IsInOrder, compact_text}
use Rattle.serde_json.proofs.Texts.{tokens_from_order}
use Rattle.eos_report.specs.DatedValues.{dated_value}
use Rattle.eos_report.proofs.Depths.{shallow_fault}
use Rattle.eos_report.proofs.Floats.{whole_fault}
use Rattle.eos_report.proofs.LastCalls.{both}
use Rattle.eos_report.proofs.json_faults.text_of_dated.Goals as goal

pub returns-clause-text : goal.returns-clause-text
returns-clause-text c =
    let whole = subst (λ d. has_float d ≡ false) (sym c.in_ok-value.ensures) (whole_fault c.args.fault.now c.args.times) in
    IfOk-weaker c.to_string-text.result _ _ (λ s is. is whole ∙ ap compact_text c.in_ok-value.ensures) c.to_string-text.ensures.text

pub returns-clause-read : goal.returns-clause-read
returns-clause-read c =
    let d = dated_value c.args.fault.now c.args.times in
    let shallow = subst (λ e. depth e ≤ max_depth) (sym c.in_ok-value.ensures) (shallow_fault c.args.fault.now c.args.times) in
    IfOk-weaker c.to_string-text.result _ _
    (λ s is. record {
      text = string_bytes s;
      same = tokens_from_order (string_bytes s) d (subst (IsInOrder (string_bytes s)) c.in_ok-value.ensures is.0) (whole_fault c.args.fault.now c.args.times);
      reads = is.1 shallow ∙ ap Some c.in_ok-value.ensures;
    })
    (both _ _ c.to_string-text.result c.to_string-text.ensures.order c.to_string-text.ensures.reads_back)
