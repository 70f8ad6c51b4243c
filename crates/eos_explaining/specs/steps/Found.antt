-- What was found of what was judged, and what is told of it.
use Rattle.std.specs.Prelude.{◌≡◌, ℕ, true, List, Some, length, map, take, drop, slice_get, string_bytes}
use Rattle.eos_evidence.specs.declared.partition.Partition.{Partition}
use Rattle.eos_evidence.specs.Evidence.{EvidenceParts}
use Rattle.eos_fold.specs.Parts.{PartLog}
use Rattle.eos_commits.specs.EvidenceLogs.{IsLogOf}
use Rattle.eos_verdict.specs.Counts.{counts_line}
use Rattle.eos_verdict.specs.declared.verdict.Fault.{Fault}
use Rattle.eos_verdict.specs.declared.verdict.Verdict.TheVariants.{No}
use Rattle.eos_notes.specs.Notes.{AreAllNotes}
use Rattle.eos_source.specs.Said.{Known}
use Rattle.eos_source_check.specs.Judged.{IsJudgedFor}
use Rattle.eos_source_check.specs.Listed.{IsListOf}
use Rattle.eos_source_check.specs.declared.judged.Judged.{Judged}
use Rattle.eos_source_check.specs.steps.JudgedBy.{HoldsBy}
use Rattle.eos_explaining.specs.declared.answer.Findings.{Findings}
use Rattle.eos_explaining.specs.Folders.{AreRead, HasThem}

-- the log of a partition of the evidence, which has the name of this one
pub record IsItsLog (e : EvidenceParts) (part log : PartLog) : Type 0 where
  pub place : ℕ
  pub partition : Partition
  pub there : slice_get e.partitions place ≡ Some partition
  pub of : IsLogOf partition log
  pub topic : part.topic ≡ log.topic
  pub number : part.number ≡ log.number

-- how many faults there are, the line of which kinds, so many of them, from a place of their list on, each as a verdict names it, and the
-- notes: those of each evidence of this spec of which this was judged, and which has the partitions with faults as they were read again
pub record AreFoundBy (known : ℕ → Known) (shape : EvidenceParts) (judged : Judged) (from most : ℕ) (found : Findings) : Type 0 where
  pub faults : List Fault
  pub all : found.all ≡ length faults
  pub line : string_bytes found.line ≡ counts_line (map No faults)
  pub held : found.told.items ≡ take most (drop from (map No faults))
  pub list : IsListOf known shape judged.logs faults
  pub notes : (e : EvidenceParts) → e.spec ≡ shape.spec → IsJudgedFor judged e → AreAllNotes e found.notes.items

-- so it is with each evidence of this spec of which this was judged, and which has the partitions as they were read again
pub record HoldsByNamed (known : ℕ → Known) (shape : EvidenceParts) (judged : Judged) (Holds : EvidenceParts → Type 0) : Type 0 where
  pub read : List Partition
  pub named : AreRead known shape.partitions read
  pub are : HoldsBy known shape judged true (λ e. HasThem e read → Holds e)
