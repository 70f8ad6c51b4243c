-- The text of a report of a no: that of the report which lists no fault, with the objects of the faults in its empty array.
use Rattle.std.specs.Prelude.{◌≡◌, List, [], ◌++◌, ℕ, drop, false, ⊤}
use Rattle.std.specs.Str.{IsCharBoundary}
use Rattle.serde_json.specs.Data.{Data}
use Rattle.serde_json.specs.Written.{items_text}
use Rattle.eos_verdict.specs.declared.verdict.Fault.{Fault}
use Rattle.eos_verdict.specs.declared.verdict.Verdict.{Verdict}
use Rattle.eos_verdict.specs.declared.verdict.Verdict.TheVariants.{Yes, No}
use Rattle.eos_notes.specs.declared.note.Note.{Note}
use Rattle.eos_notes.specs.declared.tally.Tallies.{Tallies}
use Rattle.eos_report.specs.declared.about.About.{About}
use Rattle.eos_report.specs.declared.about.Times.{Times}
use Rattle.eos_report.specs.declared.dates.Dates.{Dates}
use Rattle.eos_report.specs.declared.dates.Timestamps.{Timestamps}
use Rattle.eos_report.specs.DatedValues.{dated_items}
use Rattle.eos_report.specs.Reports.{AreTimes, report_value}
use Rattle.eos_report.specs.steps.Texts.{head, array_end, AreRead, IsTextOf}

abbrev pub with_faults : List Fault → List Timestamps → List ℕ → List ℕ
with_faults faults times frame = head ++ (items_text false (dated_items faults times) ++ drop array_end frame)

-- the text of the report that lists no fault
pub record IsFrame (about : About) (verdict : Verdict) (dates : Dates) (notes : List Note) (tallies : Tallies) (times : Times) (text : List ℕ) : Type 0 where
  pub seconds : Data
  pub are : AreTimes times seconds
  pub is : IsTextOf (report_value about verdict [] dates notes tallies seconds) text

-- the text may be cut behind the empty array
abbrev pub Opens : Verdict → List ℕ → Type 0
Opens (Yes counts) frame = ⊤
Opens (No fault) frame = IsCharBoundary frame array_end

abbrev pub IsFilled : Verdict → List Fault → List Timestamps → List ℕ → List ℕ → Type 0
IsFilled (Yes counts) faults times frame text = text ≡ frame
IsFilled (No fault) faults times frame text = (text ≡ with_faults faults times frame) × AreRead (dated_items faults times)
