-- The report of a verdict, with its faults in the text of the report that lists none.
use Rattle.std.proofs.Common.{◌≡◌, ◌≤◌, ◌∙◌, ℕ, List, [], Some, codes, refl, sym, ap, subst}
use Rattle.serde_json.specs.Data.{Data, object, array, string, boolean, Members, no_members, member, depth}
use Rattle.serde_json.specs.Read.{read, max_depth}
use Rattle.serde_json.specs.Written.{members_outline}
use Rattle.eos_verdict.specs.declared.verdict.Fault.{Fault}
use Rattle.eos_verdict.specs.declared.verdict.Verdict.{Verdict}
use Rattle.eos_verdict.specs.declared.verdict.Verdict.TheVariants.{Yes, No}
use Rattle.eos_notes.specs.declared.note.Note.{Note}
use Rattle.eos_notes.specs.declared.tally.Tallies.{Tallies}
use Rattle.eos_report.specs.declared.about.About.{About}
use Rattle.eos_manifest.specs.Objects.{count}
use Rattle.eos_report.specs.declared.dates.Dates.{Dates}
use Rattle.eos_report.specs.DatedValues.{dated_items}
use Rattle.eos_report.specs.Reports.{note_items, with_verdict, program_value, with_about, report_value}
use Rattle.eos_report.specs.TallyValues.{partition_items, groups_value, with_tallies}
use Rattle.eos_report.specs.steps.Texts.{IsTextOf}
use Rattle.eos_report.specs.steps.Frames.{Opens, IsFilled}
use Rattle.eos_report.proofs.FilledTexts.{AreAbove, opens, reads_filled}

-- what stands behind the faults of a no
abbrev rest_of : About → Dates → List Note → Tallies → Data → Members
rest_of about ds ns t seconds =
    member (codes "folder") (string about.folder.now) (member (codes "folds") (count about.folds) (member (codes "groups") (groups_value t.groups)
    (member (codes "notes") (array (note_items ns)) (member (codes "partitions") (array (partition_items t.partitions)) (member (codes "program") (program_value about)
    (member (codes "schema") (count 1) (member (codes "seconds") seconds (member (codes "timestamps_read") (boolean ds.read) (member (codes "workers") (count about.workers) no_members)))))))))

above_rest : (about : About) (ds : Dates) (ns : List Note) (t : Tallies) (seconds : Data) → AreAbove (members_outline (rest_of about ds ns t seconds))
above_rest about ds ns t seconds = (refl, refl, (refl, refl, (refl, refl, (refl, refl, (refl, refl, (refl, refl, (refl, refl, (refl, refl, (refl, refl, (refl, refl, tt))))))))))

no_value : (about : About) (f : Fault) (fs : List Fault) (ds : Dates) (ns : List Note) (t : Tallies) (seconds : Data)
    → report_value about (No f) fs ds ns t seconds ≡ object (member (codes "answer") (string (codes "no")) (member (codes "faults") (array (dated_items fs ds.of_faults)) (rest_of about ds ns t seconds)))
unfolding report_value with_tallies with_verdict with_about
no_value about f fs ds ns t seconds = refl

yes_value : (about : About) (v : Verdict) (fs : List Fault) (ds : Dates) (ns : List Note) (t : Tallies) (seconds : Data) → (counts : _) → v ≡ Yes counts
    → report_value about v [] ds ns t seconds ≡ report_value about v fs ds ns t seconds
unfolding report_value with_verdict
yes_value about v fs ds ns t seconds counts e = rw e refl

pub may_open : (about : About) (v : Verdict) (ds : Dates) (ns : List Note) (t : Tallies) (seconds : Data) (frame : List ℕ) → IsTextOf (report_value about v [] ds ns t seconds) frame → Opens v frame
may_open about (Yes counts) ds ns t seconds frame h = tt
may_open about (No f) ds ns t seconds frame h = opens (rest_of about ds ns t seconds) frame (subst (λ d. IsTextOf d frame) (no_value about f [] ds ns t seconds) h)

pub reads_report : (about : About) (v : Verdict) (fs : List Fault) (ds : Dates) (ns : List Note) (t : Tallies) (seconds : Data) (frame text : List ℕ)
    → depth (report_value about v fs ds ns t seconds) ≤ max_depth → IsTextOf (report_value about v [] ds ns t seconds) frame → IsFilled v fs ds.of_faults frame text
    → read text ≡ Some (report_value about v fs ds ns t seconds)
reads_report about (Yes counts) fs ds ns t seconds frame text shallow h is =
    let same = yes_value about (Yes counts) fs ds ns t seconds counts refl in
    ap read is ∙ h.reads (subst (λ d. depth d ≤ max_depth) (sym same) shallow) ∙ ap Some same
reads_report about (No f) fs ds ns t seconds frame text shallow h is =
    let whole = no_value about f fs ds ns t seconds in
    ap read is.0
    ∙ reads_filled (rest_of about ds ns t seconds) (dated_items fs ds.of_faults) frame (above_rest about ds ns t seconds) (subst (λ d. depth d ≤ max_depth) whole shallow)
    (subst (λ d. IsTextOf d frame) (no_value about f [] ds ns t seconds) h) is.1
    ∙ ap Some (sym whole)
