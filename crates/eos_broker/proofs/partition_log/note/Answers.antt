use Rattle.std.proofs.Common.{◌++◌, ◌∷◌, [], ap, subst, sym, Some, None}
use Rattle.eos_machine.specs.Logs.{mark_in}
use Rattle.eos_machine.specs.Application.{Batch, End}
use Rattle.eos_broker.specs.Kept.{AreKept}
use Rattle.eos_broker.proofs.StateOfLog.{kept_noted, kept_same}
use Rattle.eos_broker.proofs.partition_log.note.Goals as goal

pub returns-in-Output-clause-kept : goal.returns-in-Output-clause-kept
returns-in-Output-clause-kept c = λ xs h. subst (λ ps. AreKept ps (xs ++ c.args.item.now ∷ [])) (sym c.note_data.ensures) (kept_noted c.args.producers.now.items xs c.args.item.now c.in-Output.application (Batch c.in-Output.epoch (Some c.in-Output.sequence)) h (λ a. ap (mark_in a) c.in-Output.is))

pub returns-in-Offset-clause-kept : goal.returns-in-Offset-clause-kept
returns-in-Offset-clause-kept c = λ xs h. subst (λ ps. AreKept ps (xs ++ c.args.item.now ∷ [])) (sym c.note_data-in-Offset.ensures) (kept_noted c.args.producers.now.items xs c.args.item.now c.in-Offset.application (Batch c.in-Offset.epoch None) h (λ a. ap (mark_in a) c.in-Offset.is))

pub returns-in-Marker-clause-kept : goal.returns-in-Marker-clause-kept
returns-in-Marker-clause-kept c = λ xs h. subst (λ ps. AreKept ps (xs ++ c.args.item.now ∷ [])) (sym c.note_marker.ensures) (kept_noted c.args.producers.now.items xs c.args.item.now c.in-Marker.application (End c.in-Marker.epoch c.in-Marker.kind) h (λ a. ap (mark_in a) c.in-Marker.is))

pub returns-in-Fed-clause-kept : goal.returns-in-Fed-clause-kept
returns-in-Fed-clause-kept c = λ xs h. kept_same c.args.producers.now.items xs c.args.item.now h (λ a i. ap (mark_in a) c.in-Fed.is)

pub returns-in-State-clause-kept : goal.returns-in-State-clause-kept
returns-in-State-clause-kept c = λ xs h. kept_same c.args.producers.now.items xs c.args.item.now h (λ a i. ap (mark_in a) c.in-State.is)
