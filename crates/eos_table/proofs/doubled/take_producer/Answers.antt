use Rattle.std.proofs.Common.{fold, ap, ◌∙◌}
use Rattle.eos_table.specs.steps.LogCandidates.{taken}
use Rattle.eos_table.specs.steps.Doubled.{with_id}
use Rattle.eos_table.proofs.DoubledTables.{ids_past, ids_more, shared_is}
use Rattle.eos_table.proofs.doubled.take_producer.Goals as goal

pub returns-in_default-clause-producers : goal.returns-in_default-clause-producers
returns-in_default-clause-producers c = λ before are. ids_past c.args.producers.now before c.args.mark.now are c.in_default.is

pub returns-clause-faults : goal.returns-clause-faults
returns-clause-faults c = λ before are.
    let next = c.in_ok-ids.ensures ∙ ap (λ z. with_id z c.args.mark.now.id) c.get.ensures.value in
    c.in_ok-push_shared.ensures ∙ ap (λ z. fold taken c.args.faults.now z) (shared_is c.args.producers.now before c.args.mark.now c.in-Some.producer c.in_ok-ids.ids are c.in-Some.is next)

pub returns-clause-producers : goal.returns-clause-producers
returns-clause-producers c = λ before are.
    let next = c.in_ok-ids.ensures ∙ ap (λ z. with_id z c.args.mark.now.id) c.get.ensures.value in
    ids_more c.args.producers.now c.insert.new.self before c.args.mark.now c.in-Some.producer c.in_ok-ids.ids are c.in-Some.is next c.in_ok-insert.ensures.updates.0
