-- The exit status of what was judged.
use Rattle.std.proofs.Common.{◌≡◌, ℕ, Bool, true, not, ◌==◌, List, length, is_some, ◌∙◌, ap}
use Rattle.eos_evidence.specs.SpecFields.{SpecFields}
use Rattle.eos_fold.specs.Parts.{PartLog}
use Rattle.eos_notes.specs.declared.note.Note.{Note}
use Rattle.eos_notes.specs.Notes.{AreAllNotesBy}
use Rattle.eos_reading.specs.declared.epoch.EpochEntry.{EpochEntry}
use Rattle.eos_kept.specs.Faults.{first_of}
use Rattle.eos_source_check.specs.declared.judged.Judged.{Judged}
use Rattle.eos_words.specs.declared.demands.Demands.{Demands}
use Rattle.eos_checking.specs.Demands.{exit_status}
use Rattle.eos_checking.specs.steps.Tellings.{IsNotedBy, ExitsBy}

pub noted_is : (spec : SpecFields) (logs : List PartLog) (epochs : List (List EpochEntry)) (faulty noted : Bool) (notes seen : List Note) → AreAllNotesBy spec logs epochs faulty notes → seen ≡ notes
    → noted ≡ not (length seen == 0) → IsNotedBy spec logs epochs faulty noted
noted_is spec logs epochs faulty noted notes seen by same is =
    record { notes = notes; by = by; is = is ∙ ap (λ (ns : List Note). not (length ns == 0)) same }

pub exits_is : (spec : SpecFields) (judged : Judged) (demands : Demands) (noted : Bool) (status : ℕ)
    → (demands.strict ≡ true → IsNotedBy spec judged.logs.parts.items judged.epochs.items (is_some (first_of judged.logs.faults.items)) noted) → status ≡ exit_status demands judged.verdict noted
    → ExitsBy spec judged demands status
exits_is spec judged demands noted status notes is = record { noted = noted; notes = notes; is = is }
