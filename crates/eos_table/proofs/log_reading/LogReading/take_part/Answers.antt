use Rattle.std.proofs.Common.{◌≡◌, length, refl, ap, ◌∙◌, rules}
use Rattle.eos_table.specs.TransactionLog.{state_after, state_of}
use Rattle.eos_table.specs.steps.Held.{readout}
use Rattle.eos_table.proofs.LogSteps.{one_part, empty_state}
use Rattle.eos_table.proofs.log_reading.LogReading.take_part.Goals as goal

pub returns : goal.returns
returns c =
    let mid = c.take_records.new.reading in
    let last = c.take_records.new.last in
    let end = c.end_of.result in
    let opened = c.in_ok-push_open.ensures in
    let first : c.len-from.result ≡ length c.args.self.now.held.marks.items = search rules in
    one_part c.args.part.now (readout c.args.self.now) (readout mid) (record { held = c.push_open.new.held; decisions = mid.decisions.items; faults = c.push_open.new.faults })
    (state_of last) c.len-from.result end.offset end.partition
    (record { state = c.in_ok-take_records.ensures.last ∙ ap (λ z. state_after z c.args.part.now.items) (empty_state c.new-last.result c.new-last.ensures.empty); first = first; number = c.end_of.ensures.partition; end = c.end_of.ensures.offset })
    opened.each opened.apart (state_of c.new-last.result) (empty_state c.new-last.result c.new-last.ensures.empty) c.in_ok-take_records.ensures.read refl
