use Rattle.std.proofs.Common.{rules, ◌≡◌, ◌++◌, ◌∙◌, true, false, Bool, List, is_some, subst, sym, ap}
use Rattle.eos_commits.specs.Faults.{AreInOrder}
use Rattle.eos_fold.specs.Parts.{PartLog}
use Rattle.eos_kept.specs.Faults.{first_of}
use Rattle.eos_notes.specs.declared.note.Note.{Note}
use Rattle.eos_notes.specs.Notes.{AreAllNotesBy}
use Rattle.eos_notes.proofs.replicas.all_notes.Goals as goal

pub returns-then-is_some : goal.returns-then-is_some
returns-then-is_some c = λ order.
    let logs = c.args.logs.now in
    let spec = c.args.spec.now in
    let epochs = c.args.epochs.now in
    let some : is_some (first_of logs.faults.items) ≡ true = search rules in
    let p = c.in_ok-push_of_faulty.ensures in
    let notes = p.2 ∙ ap (λ (ns : List Note). ns ++ p.0) c.new-all.ensures.items in
    let are = subst (λ (ps : List PartLog). AreAllNotesBy spec ps epochs true p.0) c.as_slice.ensures.value p.1 in
    subst (λ (ns : List Note). AreAllNotesBy spec logs.parts.items epochs (is_some (first_of logs.faults.items)) ns) (sym notes)
    (subst (λ (b : Bool). AreAllNotesBy spec logs.parts.items epochs b p.0) (sym some) are)

pub returns : goal.returns
returns c = λ order.
    let logs = c.args.logs.now in
    let spec = c.args.spec.now in
    let epochs = c.args.epochs.now in
    let none : is_some (first_of logs.faults.items) ≡ false = search rules in
    let in_order = subst (λ (ps : List PartLog). AreInOrder ps) (sym c.as_slice.ensures.value) order in
    let p = c.in_ok-push_of_sound.ensures in_order in
    let notes = p.2 ∙ ap (λ (ns : List Note). ns ++ p.0) c.new-all.ensures.items in
    let are = subst (λ (ps : List PartLog). AreAllNotesBy spec ps epochs false p.0) c.as_slice.ensures.value p.1 in
    subst (λ (ns : List Note). AreAllNotesBy spec logs.parts.items epochs (is_some (first_of logs.faults.items)) ns) (sym notes)
    (subst (λ (b : Bool). AreAllNotesBy spec logs.parts.items epochs b p.0) (sym none) are)
