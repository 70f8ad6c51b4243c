use Rattle.std.proofs.lemmas.Result.{IfOk-weaker}
use Rattle.eos_verdict.specs.declared.verdict.Verdict.TheVariants.{No}
use Rattle.eos_report.proofs.Floats.{text_of}
use Rattle.eos_report.proofs.line.text_of_no.Goals as goal

pub returns : goal.returns
returns c = IfOk-weaker c.to_string-text.result _ _ (λ s is. text_of _ (No c.args.fault.now) _ c.in_ok-value.ensures is) c.to_string-text.ensures.text
