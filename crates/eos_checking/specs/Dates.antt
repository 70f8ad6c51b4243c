-- When the records were written that faults name, as a report says it beside their places: as the batches say it in which they stand,
-- in their partitions' segments as these are read again.
use Rattle.std.specs.Prelude.{◌≡◌, ⊤, ℕ, ℤ, List, [], ◌∷◌, ◌==◌, Bool, true, false, Option, None, Some, option_map, codes, string_bytes, if◌then◌else◌}
use Rattle.std.specs.List.{Contains}
use Rattle.eos_verdict.specs.declared.verdict.Fault.{Fault}
use Rattle.eos_verdict.specs.declared.verdict.Fault.TheVariants.{Partition as InPartition, Log, Match, Lineage}
use Rattle.eos_verdict.specs.declared.verdict.Verdict.{Verdict}
use Rattle.eos_claims.specs.declared.place.Place.{Place}
use Rattle.eos_disk.specs.Entries.{Entry}
use Rattle.eos_evidence.specs.declared.partition.Partition.{Partition}
use Rattle.eos_verdict.specs.declared.lineage_fault.LineageFault.TheVariants as lineage
use Rattle.eos_notes.specs.declared.note.Note.{Note}
use Rattle.eos_notes.specs.declared.tally.Tallies.{Tallies}
use Rattle.eos_report.specs.declared.about.About.{About}
use Rattle.eos_report.specs.declared.dates.Dates.{Dates}
use Rattle.eos_report.specs.declared.dates.Timestamps.{Timestamps}
use Rattle.eos_report.specs.Reports.{IsReportText}
use Rattle.eos_source.specs.Said.{Known}
use Rattle.eos_source_check.specs.Folders.{HoldsIn}
use Rattle.eos_source_check.specs.Times.{AreTimesNamed}
use Rattle.eos_checking.specs.Checking.{IsMadeIf}
use Rattle.eos_checking.specs.declared.check.Made.{Made}
use Rattle.eos_checking.specs.declared.check.Wanted.{Wanted}

-- ---- the records that a fault names

-- that at which it stands, or the input that it speaks of; a fault of phase 3 names none
abbrev pub record_of : Fault → Option Place
record_of (InPartition f) = Some (record { partition = record { topic = f.topic; partition = f.partition }; offset = f.offset })
record_of (Log f) = Some (record { partition = record { topic = codes "__transaction_state"; partition = f.partition }; offset = f.offset })
record_of (Match f) = None
record_of (Lineage (lineage.Record f)) = Some (record { partition = f.partition; offset = f.offset })
record_of (Lineage (lineage.Output group f)) = Some f.source

-- that which has the claim
abbrev pub claim_of : Fault → Option Place
claim_of (InPartition f) = None
claim_of (Log f) = None
claim_of (Match f) = None
claim_of (Lineage (lineage.Record f)) = None
claim_of (Lineage (lineage.Output group f)) = f.at

-- ---- their times

-- the first of these at this offset
abbrev pub time_at : ℕ → List (ℕ × ℤ) → Option ℤ
time_at offset [] = None
time_at offset (t ∷ ts) = if t.0 == offset then Some t.1 else time_at offset ts

-- of the record at this place: its offset is among those at which its partition's segments were read again
pub record IsTimeOf (known : ℕ → Known) (partitions : List Partition) (place : Place) (time : Option ℤ) : Type 0 where
  pub offsets : List ℕ
  pub among : Contains offsets place.offset
  pub times : List (ℕ × ℤ)
  pub are : AreTimesNamed known 0 partitions place.partition offsets times
  pub is : time ≡ time_at place.offset times

abbrev pub IsTimeIf : (ℕ → Known) → List Partition → Option Place → Option ℤ → Type 0
IsTimeIf known partitions None time = time ≡ None
IsTimeIf known partitions (Some place) time = IsTimeOf known partitions place time

abbrev pub AreTimesOfFault : (ℕ → Known) → List Partition → Fault → Timestamps → Type 0
AreTimesOfFault known partitions fault times = IsTimeIf known partitions (record_of fault) times.own × IsTimeIf known partitions (claim_of fault) times.claim

-- fault by fault
abbrev pub AreTimesOfFaults : (ℕ → Known) → List Partition → List Fault → List Timestamps → Type 0
AreTimesOfFaults known partitions [] [] = ⊤
AreTimesOfFaults known partitions [] (t ∷ ts) = ⊥
AreTimesOfFaults known partitions (f ∷ fs) [] = ⊥
AreTimesOfFaults known partitions (f ∷ fs) (t ∷ ts) = AreTimesOfFault known partitions f t × AreTimesOfFaults known partitions fs ts

abbrev pub AreReadIf : Bool → Type 0 → List Timestamps → Type 0
AreReadIf true AreTheirs times = AreTheirs
AreReadIf false AreTheirs times = times ≡ []

-- those of all, or none where they couldn't be read
pub record AreDates (known : ℕ → Known) (partitions : List Partition) (faults : List Fault) (dates : Dates) : Type 0 where
  pub are : AreReadIf dates.read (AreTimesOfFaults known partitions faults dates.of_faults) dates.of_faults

-- ---- the report that has them

-- a report of these faults with these times
pub record IsTextWith (about : About) (faults : List Fault) (dates : Dates) (text : List ℕ) : Type 0 where
  pub verdict : Verdict
  pub notes : List Note
  pub tallies : Tallies
  pub says : IsReportText about verdict faults dates notes tallies text

-- a report in which the times are those of the records that its faults name
pub record IsDatedText (known : ℕ → Known) (partitions : List Partition) (about : About) (text : List ℕ) : Type 0 where
  pub faults : List Fault
  pub dates : Dates
  pub are : AreDates known partitions faults dates
  pub says : IsTextWith about faults dates text

-- what was made has a report that says so, where one was wanted
abbrev pub HasReport : (About → List ℕ → Type 0) → Option Wanted → Option Made → Type 0
HasReport Says None made = ⊤
HasReport Says (Some wanted) None = ⊥
HasReport Says (Some wanted) (Some made) = IsMadeIf wanted.report (Says wanted.about) (option_map string_bytes made.report)

pub record IsDated (known : ℕ → Known) (partitions : List Partition) (wanted : Option Wanted) (made : Option Made) : Type 0 where
  pub is : HasReport (IsDatedText known partitions) wanted made

-- by what the files of this folder say
abbrev pub IsDatedIn : (List ℕ → Entry) → List ℕ → Option Wanted → Option Made → Type 0
IsDatedIn holds folder wanted made = HoldsIn holds folder (λ known shape. IsDated known shape.partitions wanted made)
