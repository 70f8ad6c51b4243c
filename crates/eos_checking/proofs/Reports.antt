-- A report by logs, whole or kept ones, is one on the evidence whose logs they are.
use Rattle.std.proofs.Common.{◌≡◌, Bool, List, Option, Some, None, is_some, sym, subst, ◌∙◌}
use Rattle.eos_verdict.specs.declared.verdict.Fault.{Fault}
use Rattle.eos_verdict.specs.declared.verdict.Verdict.{Verdict}
use Rattle.eos_check.specs.Verdicts.{IsVerdict}
use Rattle.eos_evidence.specs.Evidence.{EvidenceParts}
use Rattle.eos_evidence.specs.SpecFields.{SpecFields}
use Rattle.eos_fold.specs.Parts.{PartLog}
use Rattle.eos_notes.specs.Notes.{AreAllNotesBy}
use Rattle.eos_kept.specs.Parts.{HaveEpochs}
use Rattle.eos_kept.specs.Faults.{first_of}
use Rattle.eos_kept.specs.declared.logs.Logs.{Logs}
use Rattle.eos_notes.specs.Counts.{AreCounted}
use Rattle.eos_notes.specs.Tallies.{AreTallies}
use Rattle.eos_notes.specs.TalliesByLogs.{tallies_by}
use Rattle.eos_reading.specs.Wanted.{wanted_logs}
use Rattle.eos_source_check.proofs.KeptNotes.{whole_all}
use Rattle.eos_source_check.proofs.KeptTallies.{whole_tables}
use Rattle.eos_check.specs.KeptLogs.{AreKeptOf}
use Rattle.eos_source_check.specs.declared.judged.Judged.{Judged}
use Rattle.eos_checking.specs.Checking.{AreTold, IsReport, IsReportAsked}
use Rattle.eos_checking.specs.declared.check.Made.{Made}
use Rattle.eos_checking.specs.declared.check.Wanted.{Wanted}
use Rattle.eos_checking.specs.declared.report.Told.{Told}
use Rattle.eos_checking.specs.steps.Tellings.{IsReportBy, ReportsOf}

by_kept : (e : EvidenceParts) (logs : Logs) (told : Told) (all : Bool) (about : Wanted) (text : Made) → AreKeptOf e.spec.apps e.partitions logs.parts.items logs.faults.items → told.spec.now ≡ e.spec → told.logs.now ≡ logs
    → AreCounted e.partitions told.counted.now → HaveEpochs e.partitions told.epochs.now → IsVerdict e told.verdict.now → AreTold e all told.verdict.now told.faults.now → IsReportBy told about text → IsReport e all about text
by_kept e logs told all about text k spec same counted epochs verdict faults r =
    let named = told.logs.now.faults.items in
    let is_faults = subst (λ (l : Logs). Rattle.eos_kept.specs.Faults.AreFaultsIn e.partitions l.faults.items) (sym same) k.faults in
    let parts : told.logs.now.parts.items ≡ wanted_logs e.spec.apps k.whole = (λ i. (same i).parts.items) ∙ k.parts in
    let kept = wanted_logs e.spec.apps k.whole in
    let noted : AreAllNotesBy e.spec kept told.epochs.now (is_some (first_of named)) r.notes =
    subst (λ (ls : List PartLog). AreAllNotesBy e.spec ls told.epochs.now (is_some (first_of named)) r.notes) parts
    (subst (λ (s : SpecFields). AreAllNotesBy s told.logs.now.parts.items told.epochs.now (is_some (first_of named)) r.notes) spec r.by) in
    let over_kept : AreTallies e (tallies_by e.spec.apps kept named told.counted.now) = whole_tables e k.whole named told.counted.now k.of is_faults counted in
    let over_parts : AreTallies e (tallies_by e.spec.apps told.logs.now.parts.items named told.counted.now) =
    subst (λ (ls : List PartLog). AreTallies e (tallies_by e.spec.apps ls named told.counted.now)) (sym parts) over_kept in
    let tables : AreTallies e (tallies_by told.spec.now.apps told.logs.now.parts.items named told.counted.now) =
    subst (λ (s : SpecFields). AreTallies e (tallies_by s.apps told.logs.now.parts.items named told.counted.now)) (sym spec) over_parts in
    record {
      verdict = told.verdict.now;
      faults = told.faults.now;
      told = faults;
      notes = r.notes;
      is = verdict;
      are = whole_all e k.whole named told.epochs.now r.notes k.of is_faults epochs noted;
      tallies = tallies_by told.spec.now.apps told.logs.now.parts.items named told.counted.now;
      tabled = tables;
      dates = told.dates.now;
      says = r.says;
    }

pub kept_report : (e : EvidenceParts) (spec : SpecFields) (j : Judged) (all : Bool) (faults : List Fault) (about : Option Wanted) (text : Option Made) → e.spec ≡ spec → AreKeptOf e.spec.apps e.partitions j.logs.parts.items j.logs.faults.items
    → AreCounted e.partitions j.counted.items → HaveEpochs e.partitions j.epochs.items → IsVerdict e j.verdict → AreTold e all j.verdict faults → ReportsOf spec j faults about text → IsReportAsked e all about text
kept_report e spec j all faults None text same k counted epochs verdict are r = r
kept_report e spec j all faults (Some about) None same k counted epochs verdict are r = absurd r
kept_report e spec j all faults (Some about) (Some text) same k counted epochs verdict are r =
    let told = r.0 in
    let of_told : AreTold e all told.verdict.now told.faults.now =
    subst (λ (fs : List Fault). AreTold e all told.verdict.now fs) (sym r.6) (subst (λ (v : Verdict). AreTold e all v faults) (sym r.5) are) in
    by_kept e j.logs told all about text k (r.1 ∙ sym same) r.2 (subst (AreCounted e.partitions) (sym r.3) counted) (subst (HaveEpochs e.partitions) (sym r.4) epochs) (subst (IsVerdict e) (sym r.5) verdict) of_told r.7

pub reports : (spec : SpecFields) (j : Judged) (faults : List Fault) (asked : Option Wanted) (about : Wanted) (text : Made) (told : Told) → asked ≡ Some about → told.spec.now ≡ spec
    → told.logs.now ≡ j.logs → told.counted.now ≡ j.counted.items → told.epochs.now ≡ j.epochs.items → told.verdict.now ≡ j.verdict → told.faults.now ≡ faults → IsReportBy told about text → ReportsOf spec j faults asked (Some text)
reports spec j faults asked about text told is of_spec of_logs of_counted of_epochs of_verdict of_faults by =
    subst (λ (o : Option Wanted). ReportsOf spec j faults o (Some text)) (sym is) (told, of_spec, of_logs, of_counted, of_epochs, of_verdict, of_faults, by)
