-- The verdict that is worked out of kept logs: there is what each piece said, and it is the verdict of each evidence of this shape
-- whose segments are such; these are what is wanted of its logs, this is what is counted of its segments, and these are the offsets at
-- which their leader epochs change.
use Rattle.std.specs.Prelude.{ℕ, List, Bool, is_some}
use Rattle.eos_evidence.specs.Evidence.{EvidenceParts, IsEvidence}
use Rattle.eos_evidence.specs.SpecFields.{SpecFields}
use Rattle.eos_commits.specs.Faults.{AreInOrder}
use Rattle.eos_check.specs.KeptLogs.{AreKeptOf}
use Rattle.eos_check.specs.Verdicts.{IsVerdict}
use Rattle.eos_kept.specs.Parts.{HaveEpochs}
use Rattle.eos_kept.specs.Faults.{first_of}
use Rattle.eos_source.specs.Said.{Known}
use Rattle.eos_source.specs.Shapes.{HoldsAsSaid}
use Rattle.eos_notes.specs.Counts.{AreCounted}
use Rattle.eos_notes.specs.Lines.{IsAllNotesTextBy}
use Rattle.eos_source_check.specs.declared.judged.Judged.{Judged}

-- this is the verdict of this evidence, with what is wanted of its logs, what is counted of its segments, and their leader epochs
pub record IsJudgedFor (judged : Judged) (evidence : EvidenceParts) : Type 0 where
  pub is_evidence : IsEvidence evidence
  pub logs : AreKeptOf evidence.spec.apps evidence.partitions judged.logs.parts.items judged.logs.faults.items
  pub counted : AreCounted evidence.partitions judged.counted.items
  pub epochs : HaveEpochs evidence.partitions judged.epochs.items
  pub verdict : IsVerdict evidence judged.verdict

-- so it is with each evidence of this shape whose segments are such as the pieces said
abbrev pub IsJudgedOf : (ℕ → Known) → EvidenceParts → Judged → Type 0
IsJudgedOf known shape judged = HoldsAsSaid known shape (IsJudgedFor judged)

-- the lines of the notes on what was judged of an evidence with this manifest, or nothing where they are left out
abbrev pub IsNotesTextOf : SpecFields → Judged → Bool → List ℕ → Type 0
IsNotesTextOf spec judged quiet text = AreInOrder judged.logs.parts.items
    → IsAllNotesTextBy spec judged.logs.parts.items judged.epochs.items (is_some (first_of judged.logs.faults.items)) quiet text
