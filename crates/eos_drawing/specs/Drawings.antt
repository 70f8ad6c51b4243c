-- What `draw` makes of an evidence: the picture around the fault of its verdict, or around the fault of this number in the list of all.
use Rattle.std.specs.Prelude.{◌≡◌, ◌≤◌, ◌<◌, ◌⊎◌, ◌-◌, ℕ, List, ◌++◌, codes, length, Option, None, Some, slice_get, string_bytes}
use Rattle.std.specs.Fmt.{decimal}
use Rattle.std.specs.Str.{trim_end}
use Rattle.eos_source_check.specs.AllFaults.{AreAllFaults}
use Rattle.eos_verdict.specs.declared.verdict.Counts.{Counts}
use Rattle.eos_verdict.specs.declared.verdict.Fault.{Fault}
use Rattle.eos_verdict.specs.declared.verdict.Verdict.{Verdict}
use Rattle.eos_verdict.specs.declared.verdict.Verdict.TheVariants.{Yes, No}
use Rattle.eos_check.specs.Verdicts.{IsVerdict}
use Rattle.eos_evidence.specs.declared.partition.Partition.{Partition}
use Rattle.eos_evidence.specs.Evidence.{EvidenceParts}
use Rattle.eos_fold.specs.Parts.{PartLog}
use Rattle.eos_commits.specs.EvidenceLogs.{AreLogsOf}
use Rattle.eos_picture.specs.declared.mark.Picture.{Picture}
use Rattle.eos_verdict.specs.VerdictTexts.{verdict_line, status_of}
use Rattle.eos_source.specs.Said.{Known}
use Rattle.eos_picture.specs.declared.drawing.Drawing.{Drawing}
use Rattle.eos_picture.specs.declared.times.Times.{Times}
use Rattle.eos_picture.specs.Shapes.{svg_text}
use Rattle.eos_drawing.specs.Pictures.{IsPictureOf}
use Rattle.eos_picture.specs.Told.{TellOf}
use Rattle.eos_drawing.specs.Whens.{AreTimesOfRows}

-- the fault that a verdict names
abbrev pub fault_of : Verdict → Option Fault
fault_of (Yes counts) = None
fault_of (No fault) = Some fault

-- all faults of the evidence
pub record AreItsFaults (e : EvidenceParts) (faults : List Fault) : Type 0 where
  pub logs : List PartLog
  pub of : AreLogsOf e.partitions logs
  pub are : AreAllFaults e logs of faults

-- the fault of this number, from 1 on: the first is the verdict's
abbrev pub IsNumbered : EvidenceParts → ℕ → Fault → Type 0
IsNumbered e number fault =
    ((number ≤ 1) × IsVerdict e (No fault)) ⊎ ((1 < number) × (faults : List Fault) × AreItsFaults e faults × (slice_get faults (number - 1) ≡ Some fault))

-- the verdict that the picture is about: the evidence's own, or where a fault is asked for by its number, the one that names that fault
abbrev pub IsShown : EvidenceParts → Option ℕ → Verdict → Type 0
IsShown e None verdict = IsVerdict e verdict
IsShown e (Some number) verdict = (fault : Fault) × (verdict ≡ No fault) × IsNumbered e number fault

-- how many transactions are shown on each side, where that isn't said
abbrev pub around_of : Option ℕ → ℕ
around_of None = 6
around_of (Some around) = around

-- the line on how large a picture is
abbrev pub drew_line : Picture → List ℕ
drew_line picture =
    codes "drew columns=" ++ (decimal (length picture.columns.items) ++ (codes " rows=" ++ (decimal (length picture.rows.items) ++ codes "\n")))

-- a picture of the evidence: the line on its size, and the text of a drawing that has the verdict's line as its title, and tells of the
-- picture's marks, with the times of their records in these partitions, of whose pieces so much is known
pub record IsDrawing (known : ℕ → Known) (partitions : List Partition) (e : EvidenceParts) (fault around : Option ℕ) (status : ℕ) (line text : List ℕ) : Type 0 where
  pub verdict : Verdict
  pub shown : IsShown e fault verdict
  pub picture : Picture
  pub is : IsPictureOf e (fault_of verdict) (around_of around) picture
  pub size : line ≡ drew_line picture
  pub times : List Times
  pub when : AreTimesOfRows known partitions picture.rows.items times
  pub drawing : Drawing
  pub told : TellOf picture times drawing.shapes
  pub title : string_bytes drawing.title ≡ trim_end (verdict_line verdict)
  pub says : text ≡ svg_text drawing
  pub exit : status ≡ status_of verdict

-- there are so many faults, and this number is none of theirs: a yes has none
abbrev pub AreTooFew : EvidenceParts → Option ℕ → ℕ → Type 0
AreTooFew e None count = ⊥
AreTooFew e (Some number) count =
    ((count ≡ 0) × (counts : Counts) × IsVerdict e (Yes counts)) ⊎ ((count < number) × (faults : List Fault) × AreItsFaults e faults × (count ≡ length faults))
