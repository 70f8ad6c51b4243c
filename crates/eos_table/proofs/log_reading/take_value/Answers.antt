use Rattle.std.proofs.Common.{◌≡◌, Some, sym, ap, subst, ◌∙◌}
use Rattle.std.specs.Prelude.{is_some}
use Rattle.eos_table.specs.TransactionLog.{state_of, step_at, update}
use Rattle.eos_table.specs.declared.content.Content.TheVariants.{Of}
use Rattle.eos_table.specs.steps.LogCandidates.{faults_at}
use Rattle.eos_table.specs.steps.Held.{readout, Takes}
use Rattle.eos_table.proofs.LogSteps.{taken_state, left_state, same_state}
use Rattle.eos_table.proofs.log_reading.take_value.Goals as goal
use Rattle.eos_table.proofs.log_reading.take_value.Goals.{then-branch-2+in-Some-1, then-branch-2+in-None-1, else-branch-2+in-Some-1, else-branch-2+in-None-1}

pub returns-in_ok-insert-clause-read : goal.returns-in_ok-insert-clause-read
returns-in_ok-insert-clause-read c =
    let st = state_of c.args.last.now in
    let m = c.args.mark in
    subst (λ z. Takes (readout c.args.reading.now) (readout c.take_next.new.reading) (step_at st m.partition m.offset (Of m.id z)) (faults_at st m.partition m.offset (Of m.id z)))
    c.as_ref.ensures.value (c.in_ok-take_next.ensures.read st (sym c.in_default.ensures.value))

pub returns-else-branch-clause-read : goal.returns-else-branch-clause-read
returns-else-branch-clause-read c =
    let st = state_of c.args.last.now in
    let m = c.args.mark in
    subst (λ z. Takes (readout c.args.reading.now) (readout c.take_next.new.reading) (step_at st m.partition m.offset (Of m.id z)) (faults_at st m.partition m.offset (Of m.id z)))
    c.as_ref.ensures.value (c.in_ok-take_next.ensures.read st (sym c.in_default.ensures.value))

pub returns-clause-read : goal.returns-clause-read
returns-clause-read c =
    let st = state_of c.args.last.now in
    let m = c.args.mark in
    subst (λ z. Takes (readout c.args.reading.now) (readout c.take_next-2.new.reading) (step_at st m.partition m.offset (Of m.id z)) (faults_at st m.partition m.offset (Of m.id z)))
    c.as_ref-3.ensures.value (c.in_ok-take_next-2.ensures.read st (sym c.in-Some.ensures.value ∙ ap Some (sym c.as_ref-2.ensures.value)))

pub returns-clause-last : goal.returns-clause-last
returns-clause-last c =
    let st = state_of c.args.last.now in
    let was = ap Some c.as_ref-2.ensures.value ∙ c.in-Some.ensures.value in
    let n = c.get_mut.follows.lender c.args.value in
    let there = ap is_some (sym c.in-Some.ensures.value) in
    let written : state_of n ≡ update st c.args.mark.id c.args.value = λ i q. ((c.get_mut.follows.holds c.args.value).3 there).0 q i in
    let left : state_of (c.get_mut.follows.lender c.in-Some.slot.now) ≡ st = same_state st _ c.args.mark.id c.in-Some.slot.now (sym c.in-Some.ensures.value) ((c.get_mut.follows.holds c.in-Some.slot.now).3 there).0 in
    let taken = c.in_ok-take_next-2.ensures.taken in
    let now = c.as_ref-3.ensures.value in
    elim c.if-branch-2.branch [
      | then-branch-2+in-Some-1 w ↦ taken_state st c.args.mark.id c.args.value _ _ _ _ was now taken w.if-branch-2.true (ap state_of w.last-is ∙ written)
      | then-branch-2+in-None-1 w ↦ taken_state st c.args.mark.id c.args.value _ _ _ _ was now taken w.if-branch-2.true (ap state_of w.last-is ∙ written)
      | else-branch-2+in-Some-1 w ↦ left_state st c.args.mark.id c.args.value _ _ _ _ was now taken w.if-branch-2.false (ap state_of w.last-is ∙ left)
      | else-branch-2+in-None-1 w ↦ left_state st c.args.mark.id c.args.value _ _ _ _ was now taken w.if-branch-2.false (ap state_of w.last-is ∙ left)
    ]
