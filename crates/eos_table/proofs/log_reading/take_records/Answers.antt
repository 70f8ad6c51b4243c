use Rattle.std.proofs.Common.{◌≡◌, [], ap, sym, subst, ◌∙◌, rules}
use Rattle.eos_table.specs.TransactionLog.{steps_after, state_after, state_of}
use Rattle.eos_table.specs.steps.LogCandidates.{faults_after}
use Rattle.eos_table.specs.steps.Held.{readout, Takes}
use Rattle.eos_table.proofs.LogSteps.{one_record, takes_nothing}
use Rattle.eos_table.proofs.log_reading.take_records.Goals as goal

pub loop-item-preserved : goal.loop-item-preserved
loop-item-preserved c =
    let next = c.in-Some.ensures.some in
    let read = c.in_ok-take_record.ensures.read in
    let last = c.in_ok-take_record.ensures.last in
    let n = c.args.part.now.number in
    let st = state_of c.loop-item.last in
    record {
      read = λ all rest. c.loop-item.invariant.read all (subst (λ z. Takes (readout c.loop-item.reading) all (steps_after st n z) (faults_after st n z)) (sym next)
          (one_record st (state_of c.take_record.new.last) n c.in-Some.item c.next.new.self (readout c.loop-item.reading) (readout c.take_record.new.reading) all read last rest));
      last = ap (λ z. state_after z c.next.new.self) last ∙ subst (λ z. state_after st z ≡ state_after (state_of c.args.last.now) c.args.part.now.items) next c.loop-item.invariant.last;
    }

pub returns-clause-read : goal.returns-clause-read
returns-clause-read c =
    let q = readout c.loop-item.reading in
    let n = c.args.part.now.number in
    let st = state_of c.loop-item.last in
    let done : c.loop-item.items ≡ [] = search rules in
    c.loop-item.invariant.read q (subst (λ z. Takes q q (steps_after st n z) (faults_after st n z)) (sym done) (takes_nothing q))
