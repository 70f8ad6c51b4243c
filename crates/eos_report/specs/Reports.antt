-- The report of a check: what was checked by what, the verdict with its counts or its fault, the notes, the tables of partitions and
-- groups, and how long it took.
use Rattle.std.specs.Prelude.{◌≡◌, List, ◌++◌, ◌*◌, ℕ, codes, map, Some, option_map, unwrap_or}
use Rattle.std.specs.Duration.{as_nanos, as_secs_f64}
use Rattle.std.specs.declared.time.Duration.{Duration}
use Rattle.serde_json.specs.Data.{Data, Members, no_members, Items, object, array, string, number, boolean, null, put}
use Rattle.serde_json.specs.Find.{of_float}
use Rattle.serde_json.specs.Read.{read}
use Rattle.serde_json.specs.View.{items_of}
use Rattle.eos_verdict.specs.declared.verdict.Counts.{Counts}
use Rattle.eos_verdict.specs.declared.verdict.Fault.{Fault}
use Rattle.eos_verdict.specs.declared.verdict.Verdict.{Verdict}
use Rattle.eos_verdict.specs.declared.verdict.Verdict.TheVariants.{Yes, No}
use Rattle.eos_notes.specs.declared.note.Note.{Note}
use Rattle.eos_report.specs.declared.about.About.{About}
use Rattle.eos_report.specs.declared.about.Times.{Times}
use Rattle.eos_manifest.specs.Objects.{count}
use Rattle.eos_report.specs.declared.dates.Dates.{Dates}
use Rattle.eos_report.specs.declared.dates.Timestamps.{Timestamps}
use Rattle.eos_report.specs.DatedValues.{dated_items}
use Rattle.eos_notes.specs.declared.tally.Tallies.{Tallies}
use Rattle.eos_report.specs.NoteValues.{note_value}
use Rattle.eos_report.specs.TallyValues.{with_tallies}

unfoldable pub counts_value : Counts → Data
counts_value c =
    object (put (codes "transactions") (count c.transactions) (put (codes "outputs") (count c.outputs) (put (codes "inputs") (count c.inputs) no_members)))

-- the answer, and the counts of a yes or the faults that are told of a no, each with the times of the records that it names
unfoldable pub with_verdict : Verdict → List Fault → List Timestamps → Members → Members
with_verdict (Yes counts) faults times ms = put (codes "counts") (counts_value counts) (put (codes "answer") (string (codes "yes")) ms)
with_verdict (No fault) faults times ms = put (codes "faults") (array (dated_items faults times)) (put (codes "answer") (string (codes "no")) ms)

abbrev pub note_items : List Note → Items
note_items notes = items_of (map note_value notes)

unfoldable pub program_value : About → Data
program_value about = object (put (codes "version") (string about.version.now) (put (codes "name") (string (codes "eoscheck")) no_members))

-- the number of the schema, the program, and what it was asked
unfoldable pub with_about : About → Members → Members
with_about about ms =
    put (codes "workers") (count about.workers) (put (codes "folds") (count about.folds) (put (codes "folder") (string about.folder.now)
    (put (codes "program") (program_value about) (put (codes "schema") (count 1) ms))))

-- so many milliseconds as a number of seconds, as `Duration::as_secs_f64` rounds it
pub record AreSeconds (milliseconds : ℕ) (value : Data) : Type 0 where
  pub duration : Duration
  pub lasts : as_nanos duration ≡ milliseconds * 1_000_000
  pub is : value ≡ unwrap_or (option_map number (of_float (as_secs_f64 duration))) null

-- the seconds of each stage
pub record AreTimes (times : Times) (value : Data) : Type 0 where
  pub read : Data
  pub folded : Data
  pub judged : Data
  pub reads : AreSeconds times.read read
  pub folds : AreSeconds times.folded folded
  pub judges : AreSeconds times.judged judged
  pub is : value ≡ object (put (codes "judged") judged (put (codes "folded") folded (put (codes "read") read no_members)))

-- all of it, also whether the times of records could be read
unfoldable pub report_value : About → Verdict → List Fault → Dates → List Note → Tallies → Data → Data
report_value about verdict faults dates notes tallies seconds =
    object (put (codes "timestamps_read") (boolean dates.read) (put (codes "seconds") seconds (with_tallies tallies
    (put (codes "notes") (array (note_items notes)) (with_verdict verdict faults dates.of_faults (with_about about no_members))))))

-- a line that reads as the report
pub record IsReportText (about : About) (verdict : Verdict) (faults : List Fault) (dates : Dates) (notes : List Note) (tallies : Tallies) (text : List ℕ) : Type 0 where
  pub seconds : Data
  pub line : List ℕ
  pub ends : text ≡ line ++ codes "\n"
  pub reads : read line ≡ Some (report_value about verdict faults dates notes tallies seconds)

-- a line that reads as the report, and in it the seconds are those of these times
pub record IsTimedReportText (about : About) (verdict : Verdict) (faults : List Fault) (dates : Dates) (notes : List Note) (tallies : Tallies) (times : Times) (text : List ℕ) : Type 0 where
  pub seconds : Data
  pub are : AreTimes times seconds
  pub line : List ℕ
  pub ends : text ≡ line ++ codes "\n"
  pub reads : read line ≡ Some (report_value about verdict faults dates notes tallies seconds)
