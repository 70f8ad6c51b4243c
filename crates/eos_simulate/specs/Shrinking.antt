-- What `shrink` leaves: a schedule that is a part of the one that it was given, and gives a fault of the same code first.
use Rattle.std.specs.Prelude.{◌≡◌, ℕ, List, ◌++◌, length, codes, Option}
use Rattle.std.specs.Fmt.{decimal}
use Rattle.eos_check.specs.Verdicts.{IsVerdict}
use Rattle.eos_disk.specs.Entries.{Entry}
use Rattle.eos_disk.specs.Putting.{IsBegun, IsPlaced}
use Rattle.eos_evidence.specs.Evidence.{EvidenceParts}
use Rattle.eos_verdict.specs.VerdictNames.{phase_of, number_of}
use Rattle.eos_verdict.specs.declared.verdict.Fault.{Fault}
use Rattle.eos_verdict.specs.declared.verdict.Verdict.TheVariants.{No}
use Rattle.eos_drive.specs.declared.deed.Deed.{Deed}
use Rattle.eos_machine.specs.declared.config.Config.{Config}
use Rattle.eos_history_lines.specs.declared.line.Deed.{Deed as SaidDeed}
use Rattle.eos_history_lines.specs.declared.schedule.Schedule.{Schedule}
use Rattle.eos_words.specs.declared.request.Shrink.{Shrink}
use Rattle.eos_simulate.specs.Folders.{IsScheduleAt}
use Rattle.eos_simulate.specs.Histories.{IsLeftBy}
use Rattle.eos_simulate.specs.HistoryTexts.{IsHistoryText}
use Rattle.eos_simulate.specs.Parts.{IsPartOf, unnamed_deeds, unnamed_lines}

-- as `check` prints it before the fault's name
abbrev pub code_of : Fault → List ℕ
code_of fault = decimal (phase_of fault) ++ (codes "." ++ decimal (number_of fault))

-- the verdict of this evidence is no, by a fault of this code
pub record GivesFault (code : List ℕ) (e : EvidenceParts) : Type 0 where
  pub fault : Fault
  pub verdict : IsVerdict e (No fault)
  pub coded : code_of fault ≡ code

-- these deeds, a part of the whole, leave evidence of a new cluster of these sizes that gives such a fault
pub record IsShrunk (c : Config) (code : List ℕ) (whole : List SaidDeed) (deeds : List Deed) : Type 0 where
  pub evidence : EvidenceParts
  pub left : IsLeftBy c deeds evidence
  pub gives : GivesFault code evidence
  pub part : IsPartOf (unnamed_deeds deeds) whole

-- what is printed: the lines that are left, those of the whole, and how many schedules were run
abbrev pub shrunk_line : ℕ → ℕ → ℕ → List ℕ
shrunk_line lines of runs =
    (codes "shrunk lines=" ++ decimal lines) ++ ((codes " of=" ++ decimal of) ++ ((codes " runs=" ++ decimal runs) ++ codes "\n"))

-- of a schedule this text of a history is left, and this line is printed
pub record IsShrunkText (s : Schedule) (code text line : List ℕ) : Type 0 where
  pub deeds : List Deed
  pub runs : ℕ
  pub shrunk : IsShrunk s.head.config code (unnamed_lines s.lines) deeds
  pub says : IsHistoryText s.head deeds text
  pub tells : line ≡ shrunk_line (length deeds) (length s.lines) runs

-- the file is begun, the schedule is read, and what is left of it is the file's text
pub record IsShrunkFile (words : Shrink) (left rest : Option (List ℕ)) (old new : List ℕ → Entry) (line : List ℕ) : Type 0 where
  pub begun : List ℕ → Entry
  pub schedule : Schedule
  pub text : List ℕ
  pub begins : IsBegun old words.file.now begun
  pub read : IsScheduleAt begun words.history.now left rest schedule
  pub shrunk : IsShrunkText schedule words.code.now text line
  pub ends : IsPlaced begun words.file.now text new
