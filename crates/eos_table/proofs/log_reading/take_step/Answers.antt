use Rattle.std.proofs.Common.{rules, ◌≡◌, fold, ap, subst, w32, to_z, of_z}
use Rattle.std.specs.Option.{option_copied}
use Rattle.eos_table.specs.declared.mark.Mark.{Mark}
use Rattle.eos_table.specs.steps.LogCandidates.{producer_of, step_of, step_faults, taken}
use Rattle.eos_table.specs.steps.Held.{readout}
use Rattle.eos_table.proofs.LogSteps.{KeepsEach, KeepsApart, takes_step}
use Rattle.eos_table.proofs.log_reading.take_step.Goals as goal

pub returns : goal.returns
returns c =
    let old = c.args.reading.now.held in
    let new = c.take.new.self in
    let mark : Mark = c.args.mark.now in
    let same : mark ≡ record { partition = mark.partition; offset = mark.offset; id = mark.id; producer = producer_of (option_copied c.args.value) }
    = ap (λ p. record { partition = mark.partition; offset = mark.offset; id = mark.id; producer = p }) c.requires in
    let number : to_z w32 (of_z w32 mark.partition) ≡ mark.partition = search rules in
    let refused = subst (λ n. c.push_refused.new.faults ≡ fold taken c.args.reading.now.faults (step_faults (step_of n mark.offset mark.id (option_copied c.args.before) (option_copied c.args.value)))) number c.in_ok-push_refused.ensures in
    takes_step (readout c.args.reading.now) (record { held = new; decisions = c.push_decision.new.decisions.items; faults = c.push_refused.new.faults })
    (step_of mark.partition mark.offset mark.id (option_copied c.args.before) (option_copied c.args.value)) refused
    (subst (KeepsEach old new) same c.in_ok-take.ensures.each) (subst (KeepsApart old new) same c.in_ok-take.ensures.apart) c.in_ok-push_decision.ensures
