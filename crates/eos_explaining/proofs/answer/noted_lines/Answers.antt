use Rattle.std.proofs.Common.{List, false, is_some, subst, sym, string_bytes}
use Rattle.eos_commits.specs.Faults.{AreInOrder}
use Rattle.eos_evidence.specs.SpecFields.{SpecFields}
use Rattle.eos_fold.specs.Parts.{PartLog}
use Rattle.eos_kept.specs.Faults.{first_of}
use Rattle.eos_notes.specs.Lines.{IsAllNotesTextBy}
use Rattle.eos_reading.specs.declared.epoch.EpochEntry.{EpochEntry}
use Rattle.eos_source_check.proofs.KeptNotes.{kept_in_order, whole_all_text}
use Rattle.eos_explaining.proofs.LastCalls.{reasoned}
use Rattle.eos_explaining.proofs.answer.noted_lines.Goals as goal

pub returns : goal.returns
returns c = reasoned _ _ _ c.all_lines.result (λ lines told e spec j.
    let logs = c.args.judged.now.logs in
    let text = string_bytes lines in
    let order = subst AreInOrder (sym j.logs.parts) (kept_in_order e j.logs.whole j.is_evidence j.logs.of) in
    let by_spec = subst (λ (s : SpecFields). IsAllNotesTextBy s logs.parts.items c.as_slice-epochs.result.now (is_some (first_of logs.faults.items)) false text) (sym spec) (told order) in
    let by_epochs = subst (λ (es : List (List EpochEntry)). IsAllNotesTextBy e.spec logs.parts.items es (is_some (first_of logs.faults.items)) false text) c.as_slice-epochs.ensures.value by_spec in
    let by_kept = subst (λ (ls : List PartLog). IsAllNotesTextBy e.spec ls c.args.judged.now.epochs.items (is_some (first_of logs.faults.items)) false text) j.logs.parts by_epochs in
    whole_all_text e j.logs.whole logs.faults.items c.args.judged.now.epochs.items false text j.logs.of j.logs.faults j.epochs by_kept) c.all_lines.ensures
