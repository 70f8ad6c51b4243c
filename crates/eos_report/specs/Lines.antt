-- How `check --json` prints: the object of a verdict, which of a no has the fields of the fault that a report has; and all faults so.
use Rattle.std.specs.Prelude.{ℕ, List, ◌++◌, codes, length}
use Rattle.std.specs.List.{flat_map}
use Rattle.serde_json.specs.Data.{Data, object, member, no_members, put, string, number, unsigned}
use Rattle.serde_json.specs.Written.{compact_text}
use Rattle.eos_verdict.specs.declared.verdict.Fault.{Fault}
use Rattle.eos_verdict.specs.declared.verdict.Verdict.{Verdict}
use Rattle.eos_verdict.specs.declared.verdict.Verdict.TheVariants.{Yes, No}
use Rattle.eos_verdict.specs.FaultTexts.{fault_text}
use Rattle.eos_report.specs.VerdictValues.{verdict_value}
use Rattle.eos_report.specs.FaultValues.{fault_value}

-- ---- a verdict

-- {"answer":"no","fault":"TEXT","fields":{..}}, and a yes as it is
abbrev pub line_value : Verdict → Data
line_value (Yes counts) = verdict_value (Yes counts)
line_value (No fault) =
    object (put (codes "fields") (fault_value fault) (member (codes "answer") (string (codes "no")) (member (codes "fault") (string (fault_text fault)) no_members)))

abbrev pub json_line : Verdict → List ℕ
json_line verdict = compact_text (line_value verdict) ++ codes "\n"

-- ---- all faults, an object a line, each line after the words that say of which folder it is

unfoldable pub fault_json_line : List ℕ → Fault → List ℕ
fault_json_line about f = about ++ (compact_text (line_value (No f)) ++ codes "\n")

-- {"faults":N}
abbrev pub count_value : ℕ → Data
count_value n = object (member (codes "faults") (number (unsigned n)) no_members)

unfoldable pub count_json_line : List ℕ → ℕ → List ℕ
count_json_line about n = about ++ (compact_text (count_value n) ++ codes "\n")

abbrev pub list_json : List ℕ → List Fault → List ℕ
list_json about faults = flat_map (fault_json_line about) faults ++ count_json_line about (length faults)
