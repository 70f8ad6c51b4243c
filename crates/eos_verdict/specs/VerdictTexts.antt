-- How a verdict is printed as a line. The exit status is 0 for yes and 1 for no.
use Rattle.std.specs.Prelude.{ℕ, List, ◌++◌, codes}
use Rattle.std.specs.Fmt.{decimal}
use Rattle.eos_verdict.specs.declared.verdict.Counts.{Counts}
use Rattle.eos_verdict.specs.declared.verdict.Verdict.{Verdict}
use Rattle.eos_verdict.specs.declared.verdict.Verdict.TheVariants.{Yes, No}
use Rattle.eos_verdict.specs.FaultTexts.{fault_text}

unfoldable pub counts_text : Counts → List ℕ
counts_text c =
    (codes "yes transactions=" ++ decimal c.transactions) ++ ((codes " inputs=" ++ decimal c.inputs) ++ (codes " outputs=" ++ decimal c.outputs))

-- the line, without its end
abbrev pub verdict_text : Verdict → List ℕ
verdict_text (Yes counts) = counts_text counts
verdict_text (No fault) = codes "no " ++ fault_text fault

abbrev pub verdict_line : Verdict → List ℕ
verdict_line verdict = verdict_text verdict ++ codes "\n"

abbrev pub status_of : Verdict → ℕ
status_of (Yes counts) = 0
status_of (No fault) = 1
