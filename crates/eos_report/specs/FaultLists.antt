-- How all faults are printed: each as a verdict names it, and then how many there are. Each line begins with the words that say of
-- which folder it is, where there are several.
use Rattle.std.specs.Prelude.{ℕ, List, ◌++◌, codes, length}
use Rattle.std.specs.List.{flat_map}
use Rattle.std.specs.Fmt.{decimal}
use Rattle.eos_verdict.specs.declared.verdict.Fault.{Fault}
use Rattle.eos_verdict.specs.declared.verdict.Verdict.TheVariants.{No}
use Rattle.eos_verdict.specs.VerdictTexts.{verdict_line}

unfoldable pub fault_line : List ℕ → Fault → List ℕ
fault_line about f = about ++ verdict_line (No f)

unfoldable pub count_line : List ℕ → ℕ → List ℕ
count_line about n = about ++ ((codes "faults=" ++ decimal n) ++ codes "\n")

abbrev pub list_text : List ℕ → List Fault → List ℕ
list_text about faults = flat_map (fault_line about) faults ++ count_line about (length faults)
