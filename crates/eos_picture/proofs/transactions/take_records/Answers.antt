use Rattle.std.proofs.Common.{◌≡◌, ◌++◌, subst}
use Rattle.std.specs.List.{flat_map}
use Rattle.eos_table.specs.TransactionLog.{state_of, steps_after, steps_of}
use Rattle.eos_picture.specs.Transactions.{column_at}
use Rattle.eos_picture.proofs.Steps.{one_record}
use Rattle.eos_picture.proofs.transactions.take_records.Goals as goal

pub loop-item-preserved : goal.loop-item-preserved
loop-item-preserved c =
    let next = c.in-Some.ensures.some in
    let all = c.args.columns.now.items ++ flat_map column_at (steps_of c.args.part.now) in
    one_record (state_of c.loop-item.last) (state_of c.take_record.new.last) c.args.part.now.number c.in-Some.item c.next.new.self c.loop-item.columns.items c.take_record.new.columns.items all c.in_ok-take_record.ensures.columns c.in_ok-take_record.ensures.last
    (subst (λ z. c.loop-item.columns.items ++ flat_map column_at (steps_after (state_of c.loop-item.last) c.args.part.now.number z) ≡ all) next c.loop-item.invariant)
