use Rattle.std.proofs.Common.{◌∙◌, ap, ◌++◌, ℕ, List, codes}
use Rattle.eos_report.proofs.Floats.{text_of}
use Rattle.eos_report.proofs.line.json_line.Goals as goal

pub returns : goal.returns
returns c =
    let text = text_of _ c.args.verdict.now _ c.in_ok-value.ensures c.in_ok-line.ensures.text in
    c.in_ok-push_str.ensures.bytes ∙ ap (λ (l : List ℕ). l ++ codes "\n") text
