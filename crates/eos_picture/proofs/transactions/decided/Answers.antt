use Rattle.std.proofs.Common.{sym, ◌∙◌, arith}
use Rattle.eos_picture.proofs.Steps.{part_read, part_passed, parts_end}
use Rattle.eos_picture.proofs.transactions.decided.Goals.{then-is_of_transaction_log+in_ok-take_records, else-is_of_transaction_log}
use Rattle.eos_picture.proofs.transactions.decided.Goals as goal

pub loop-part-preserved : goal.loop-part-preserved
loop-part-preserved c =
    let logs = c.args.logs.now in
    let i = c.loop-part.part-index in
    let part = c.part-item.result in
    let old = c.loop-part.columns.items in
    elim c.if-is_of_transaction_log.branch [
      | then-is_of_transaction_log+in_ok-take_records w ↦ rw w.columns-is (part_read logs i _ part old w.take_records.new.columns.items _ c.loop-part-test.true c.part-item.is
          (sym c.is_of_transaction_log.ensures ∙ w.if-is_of_transaction_log.true) w.in_ok-take_records.ensures c.loop-part.invariant)
      | else-is_of_transaction_log w ↦ rw w.columns-is (part_passed logs i _ part old _ c.loop-part-test.true c.part-item.is
          (sym c.is_of_transaction_log.ensures ∙ w.if-is_of_transaction_log.false) c.loop-part.invariant)
    ]

pub returns : goal.returns
returns c = parts_end c.args.logs.now c.loop-part.part-index c.loop-part.columns.items _ (omega (arith, c.loop-part-test.false)) c.loop-part.invariant
