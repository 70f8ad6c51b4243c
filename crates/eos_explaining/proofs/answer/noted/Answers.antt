use Rattle.std.proofs.Common.{List, is_some, subst, sym}
use Rattle.eos_commits.specs.Faults.{AreInOrder}
use Rattle.eos_evidence.specs.SpecFields.{SpecFields}
use Rattle.eos_fold.specs.Parts.{PartLog}
use Rattle.eos_kept.specs.Faults.{first_of}
use Rattle.eos_notes.specs.Notes.{AreAllNotesBy}
use Rattle.eos_reading.specs.declared.epoch.EpochEntry.{EpochEntry}
use Rattle.eos_source_check.proofs.KeptNotes.{kept_in_order, whole_all}
use Rattle.eos_explaining.proofs.LastCalls.{reasoned}
use Rattle.eos_explaining.proofs.answer.noted.Goals as goal

pub returns : goal.returns
returns c = reasoned _ _ _ c.all_notes.result (λ notes told e spec j.
    let logs = c.args.judged.now.logs in
    let found = notes.items in
    let order = subst AreInOrder (sym j.logs.parts) (kept_in_order e j.logs.whole j.is_evidence j.logs.of) in
    let by_spec = subst (λ (s : SpecFields). AreAllNotesBy s logs.parts.items c.as_slice-epochs.result.now (is_some (first_of logs.faults.items)) found) (sym spec) (told order) in
    let by_epochs = subst (λ (es : List (List EpochEntry)). AreAllNotesBy e.spec logs.parts.items es (is_some (first_of logs.faults.items)) found) c.as_slice-epochs.ensures.value by_spec in
    let by_kept = subst (λ (ls : List PartLog). AreAllNotesBy e.spec ls c.args.judged.now.epochs.items (is_some (first_of logs.faults.items)) found) j.logs.parts by_epochs in
    whole_all e j.logs.whole logs.faults.items c.args.judged.now.epochs.items found j.logs.of j.logs.faults j.epochs by_kept) c.all_notes.ensures
