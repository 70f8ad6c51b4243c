-- What a yes has to meet: the exit status of `check`, as other tools have one for each thing that a script tells apart, and what is said of
-- a count that isn't the expected one.
use Rattle.std.specs.Prelude.{◌≡◌, ℕ, List, [], ◌++◌, length, Bool, false, not, ◌&&◌, ◌||◌, ◌==◌, if◌then◌else◌, Option, None, Some, codes}
use Rattle.std.specs.Fmt.{decimal}
use Rattle.eos_verdict.specs.declared.verdict.Counts.{Counts}
use Rattle.eos_verdict.specs.declared.verdict.Verdict.{Verdict}
use Rattle.eos_verdict.specs.declared.verdict.Verdict.TheVariants.{Yes, No}
use Rattle.eos_check.specs.Verdicts.{IsVerdict}
use Rattle.eos_evidence.specs.Evidence.{EvidenceParts}
use Rattle.eos_notes.specs.declared.note.Note.{Note}
use Rattle.eos_notes.specs.Notes.{AreAllNotes}
use Rattle.eos_verdict.specs.VerdictTexts.{status_of}
use Rattle.eos_words.specs.declared.demands.Demands.{Demands}
use Rattle.eos_checking.specs.declared.terms.Terms.{Terms}

-- ---- the exit status

-- whether a note stands beside the verdict
pub record IsNoted (e : EvidenceParts) (noted : Bool) : Type 0 where
  pub notes : List Note
  pub are : AreAllNotes e notes
  pub is : noted ≡ not (length notes == 0)

-- whether a count is another one than is expected
abbrev pub differs : Option ℕ → ℕ → Bool
differs None count = false
differs (Some expected) count = not (expected == count)

-- whether a yes with these counts isn't as it is demanded
abbrev pub falls_short : Demands → Counts → Bool → Bool
falls_short d c noted = (d.strict && noted) || (differs d.transactions c.transactions || (differs d.inputs c.inputs || differs d.outputs c.outputs))

-- 0 for yes and 1 for no; 4 for a yes that isn't as it is demanded
abbrev pub exit_status : Demands → Verdict → Bool → ℕ
exit_status d (Yes counts) noted = if falls_short d counts noted then 4 else status_of (Yes counts)
exit_status d (No fault) noted = status_of (No fault)

-- ---- what is said

abbrev pub differing_line : List ℕ → List ℕ → ℕ → ℕ → List ℕ
differing_line folder name expected count =
    codes "eoscheck: " ++ (folder ++ (codes ": " ++ (name ++ (codes "=" ++ (decimal count ++ (codes ", but " ++ (decimal expected ++ codes " were expected\n")))))))

-- the line of a count that isn't the expected one
abbrev pub count_line : List ℕ → List ℕ → Option ℕ → ℕ → List ℕ
count_line folder name None count = []
count_line folder name (Some expected) count = if expected == count then [] else differing_line folder name expected count

-- the lines of the counts of a yes, in the order in which it has them
abbrev pub unmet_text : Terms → Verdict → List ℕ
unmet_text terms (Yes c) =
    count_line terms.folder.now (codes "transactions") terms.demands.transactions c.transactions
    ++ (count_line terms.folder.now (codes "inputs") terms.demands.inputs c.inputs ++ count_line terms.folder.now (codes "outputs") terms.demands.outputs c.outputs)
unmet_text terms (No fault) = []

-- the lines of the counts of this evidence
abbrev pub IsUnmetText : EvidenceParts → Terms → List ℕ → Type 0
IsUnmetText e terms text = (verdict : Verdict) × IsVerdict e verdict × (text ≡ unmet_text terms verdict)
