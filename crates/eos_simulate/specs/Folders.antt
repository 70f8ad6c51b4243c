-- What `simulate` leaves on a disk: the evidence that its run made, as the files of a new folder and no others, and the files of its history
-- and of its labels.
use Rattle.std.specs.Prelude.{◌≡◌, ◌≢◌, ⊤, ℕ, Bool, false, List, map, Option, None, Some, IfSome, is_some}
use Rattle.std.specs.Borrow.{Bor}
use Rattle.std.specs.List.{AllZip}
use Rattle.eos_disk.specs.Entries.{Entry, HasBytes}
use Rattle.eos_disk.specs.GivenTexts.{is_standard, IsTextOf}
use Rattle.eos_disk.specs.Changes.{IsMade}
use Rattle.eos_disk.specs.Putting.{beside, IsBegun}
use Rattle.eos_disk.specs.Reading.{IsReadWhole}
use Rattle.eos_disk.specs.Shapes.{AreKnown}
use Rattle.eos_disk.specs.Writing.{IsEvidenceWritten}
use Rattle.eos_disk.specs.Written.{below, IsEmptyAt, HoldsJust, HasListings}
use Rattle.eos_ending.specs.Leaving.{IsLeftAs}
use Rattle.eos_evidence.specs.Evidence.{EvidenceParts}
use Rattle.eos_machine.specs.declared.config.Config.{Config}
use Rattle.eos_machine.specs.declared.switches.Switches.{Switches}
use Rattle.eos_machine.specs.Schedules.{IsOfSchedule}
use Rattle.eos_machine.specs.Switching.{any_on}
use Rattle.eos_drive.specs.declared.deed.Deed.{Deed}
use Rattle.eos_history_lines.specs.Divided.{lines_of}
use Rattle.eos_history_lines.specs.Files.{IsSchedule}
use Rattle.eos_history_lines.specs.declared.line.Head.{Head}
use Rattle.eos_history_lines.specs.declared.schedule.Schedule.{Schedule}
use Rattle.eos_words.specs.declared.request.Simulation.{Simulation}
use Rattle.eos_simulate.specs.Histories.{IsLeftBy, HasBroken, LoseNothing, IsAsSaid, acts_of, acts_said, FitsTotals}
use Rattle.eos_simulate.specs.HistoryTexts.{IsHistoryIf}
use Rattle.eos_simulate.specs.LabelTexts.{AreLabelsIf}
use Rattle.eos_simulate.specs.declared.made.WantedTexts.{WantedTexts}
use Rattle.eos_simulate.specs.declared.mistake.Mistake.{Mistake}
use Rattle.eos_simulate.specs.CollectedRuns.{IsCollectedAs}
use Rattle.eos_simulate.specs.MistakeTexts.{mistake_word}
use Rattle.eos_simulate.specs.Schedules.{HasRightLogs, HasNoFaultInLogs}
use Rattle.eos_simulate.specs.Settings.{config_said, switches_said, unclean_said}

-- ---- the run

abbrev pub head_said : Simulation → Head
head_said words = record { config = config_said words.sizes; switches = switches_said words.switches.items; seed = words.seed; words = words.events }

-- the texts of a history and of labels
abbrev pub Texts : Type 0
Texts = Option (List ℕ) × Option (List ℕ)

-- which of them are wanted
abbrev pub wanted_by : Simulation → WantedTexts
wanted_by words = record { history = is_some words.history; labels = is_some words.labels }

-- the texts of what was done are those that are wanted
abbrev pub AreTextsOf : WantedTexts → Head → Config → Bool → List Deed → Texts → Type 0
AreTextsOf keeps h c stops deeds texts = IsHistoryIf keeps.history h deeds texts.0 × AreLabelsIf keeps.labels c stops deeds texts.1

-- a script's run, in a cluster of these sizes that breaks these rules, made this evidence, and these texts; where it doesn't stop after the
-- script it comes to rest; of one without broken rules in which no election lost a record the logs are right. None did, where no leader was
-- to be lost whose followers lack records
pub record IsOfScript (c : Config) (u : Switches) (stops : Bool) (unclean : ℕ) (h : Head) (keeps : WantedTexts) (e : EvidenceParts) (texts : Texts) : Type 0 where
  pub deeds : List Deed
  pub left : IsLeftBy c deeds e
  pub broken : HasBroken u deeds
  pub schedule : stops ≡ false → any_on u ≡ false → LoseNothing c deeds → IsOfSchedule e
  pub right : stops ≡ false → any_on u ≡ false → LoseNothing c deeds → HasRightLogs e
  pub faultless : stops ≡ false → any_on u ≡ false → LoseNothing c deeds → HasNoFaultInLogs e
  pub lossless : unclean ≡ 0 → LoseNothing c deeds
  pub texts_are : AreTextsOf keeps h c stops deeds texts

-- the run that these words ask for did
abbrev pub IsOfWords : Simulation → EvidenceParts → Texts → Type 0
IsOfWords words e texts = IsOfScript (config_said words.sizes) (switches_said words.switches.items) words.stop_anywhere (unclean_said words.mishaps.items) (head_said words) (wanted_by words) e texts

-- a run of this schedule did
pub record IsOfLines (s : Schedule) (stops : Bool) (keeps : WantedTexts) (e : EvidenceParts) (texts : Texts) : Type 0 where
  pub deeds : List Deed
  pub left : IsLeftBy s.head.config deeds e
  pub done : acts_of deeds ≡ acts_said s.lines
  pub answered : AllZip IsAsSaid deeds s.lines
  pub totals : IfSome s.tail (FitsTotals deeds)
  pub texts_are : AreTextsOf keeps s.head s.head.config stops deeds texts

-- the schedule that this file says
pub record IsScheduleAt (holds : List ℕ → Entry) (path : List ℕ) (left rest : Option (List ℕ)) (s : Schedule) : Type 0 where
  pub text : List ℕ
  pub read : IsTextOf (is_standard path) holds path left rest text
  pub says : IsSchedule (lines_of text) s

-- the run that the words ask for, by a schedule or without one
abbrev pub IsRunBy : Option (Bor (List ℕ)) → Simulation → (List ℕ → Entry) → Option (List ℕ) → Option (List ℕ) → EvidenceParts → Texts → Type 0
IsRunBy None words holds left rest e texts = IsOfWords words e texts
IsRunBy (Some path) words holds left rest e texts = (s : Schedule) × IsScheduleAt holds path.now left rest s × IsOfLines s words.stop_anywhere (wanted_by words) e texts

-- the run that the words ask for made an evidence, and with the mistakes that they say this one was brought
pub record IsRun (words : Simulation) (holds : List ℕ → Entry) (left rest : Option (List ℕ)) (e : EvidenceParts) (texts : Texts) : Type 0 where
  pub evidence : EvidenceParts
  pub said : Texts
  pub run : IsRunBy words.schedule words holds left rest evidence said
  pub mistakes : List Mistake
  pub words_say : map mistake_word mistakes ≡ map (λ w. w.now) words.mistakes.items
  pub collected : IsCollectedAs mistakes evidence said e texts

-- ---- the disk

-- a file is begun, if one is wanted
abbrev pub IsBegunIf : Option (Bor (List ℕ)) → Option (List ℕ) → (List ℕ → Entry) → (List ℕ → Entry) → Type 0
IsBegunIf None None old new = new ≡ old
IsBegunIf None (Some file) old new = ⊥
IsBegunIf (Some path) None old new = ⊥
IsBegunIf (Some path) (Some file) old new = (file ≡ path.now) × IsBegun old path.now new

-- the file that was begun gets this text
abbrev pub IsEndedIf : Option (List ℕ) → Option (List ℕ) → (List ℕ → Entry) → (List ℕ → Entry) → Type 0
IsEndedIf None text old new = new ≡ old
IsEndedIf (Some file) text old new = IsLeftAs old file text new

-- one after the other: the files of the history and of the labels are begun, the run reads its schedule, the folder is made, the labels and
-- the history are written, and then the evidence
pub record IsLeft (words : Simulation) (left rest : Option (List ℕ)) (old : List ℕ → Entry) (e : EvidenceParts) (new : List ℕ → Entry) : Type 0 where
  pub begun : List ℕ → Entry
  pub ready : List ℕ → Entry
  pub made : List ℕ → Entry
  pub labelled : List ℕ → Entry
  pub ended : List ℕ → Entry
  pub files : Texts
  pub texts : Texts
  pub begins : IsBegunIf words.history files.0 old begun
  pub begins_labels : IsBegunIf words.labels files.1 begun ready
  pub run : IsRun words ready left rest e texts
  pub folder : IsMade ready words.folder.now made
  pub ends_labels : IsEndedIf files.1 texts.1 made labelled
  pub ends : IsEndedIf files.0 texts.0 labelled ended
  pub written : IsEvidenceWritten ended words.folder.now e new

abbrev pub IsBelow : List ℕ → List ℕ → Type 0
IsBelow folder path = (name : List ℕ) × (path ≡ below folder name)

-- neither this file nor what is written beside it first lies below the folder
abbrev pub IsApartFrom : List ℕ → Option (Bor (List ℕ)) → Type 0
IsApartFrom folder None = ⊤
IsApartFrom folder (Some path) = (IsBelow folder path.now → ⊥) × (IsBelow folder (beside path.now) → ⊥)

-- neither of this file nor of what is written beside it first the other file has the path
abbrev pub IsOther : Option (Bor (List ℕ)) → Option (Bor (List ℕ)) → Type 0
IsOther None other = ⊤
IsOther (Some path) None = ⊤
IsOther (Some path) (Some other) = (other.now ≢ path.now) × (other.now ≢ beside path.now)

abbrev pub AreApart : Simulation → Type 0
AreApart words = IsApartFrom words.folder.now words.history × IsApartFrom words.folder.now words.labels × IsOther words.history words.labels

-- a text stands at its path
abbrev pub IsThereIf : Option (Bor (List ℕ)) → Option (List ℕ) → (List ℕ → Entry) → Type 0
IsThereIf None text new = ⊤
IsThereIf (Some path) None new = ⊥
IsThereIf (Some path) (Some text) new = HasBytes (new path.now) text

-- this evidence was left. Where nothing stood below the folder, just its files do now, from which it is read back if the disk is known;
-- and the history and the labels stand at their paths
pub record IsSimulated (words : Simulation) (left rest : Option (List ℕ)) (old new : List ℕ → Entry) (e : EvidenceParts) : Type 0 where
  pub is : IsLeft words left rest old e new
  pub just : IsEmptyAt old words.folder.now → AreApart words → HoldsJust new words.folder.now e
  pub back : IsEmptyAt old words.folder.now → AreApart words → AreKnown new words.folder.now → HasListings new → IsReadWhole new words.folder.now e
  pub kept : AreApart words → IsThereIf words.history is.texts.0 new
  pub labelled : AreApart words → IsThereIf words.labels is.texts.1 new
