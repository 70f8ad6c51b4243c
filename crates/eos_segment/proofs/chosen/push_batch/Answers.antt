use Rattle.std.proofs.Common.{sym, ◌∙◌}
use Rattle.eos_text.proofs.Appended.{then}
use Rattle.eos_segment.proofs.chosen.push_batch.Goals as goal

pub returns-in_ok-push_records : goal.returns-in_ok-push_records
returns-in_ok-push_records c =
    let head = simp c.kind_word.ensures at c.in_ok-push_head.ensures in
    rw (sym c.asks_for_one.ensures ∙ c.if-asks_for_one.true) (then head c.in_ok-push_records.ensures)
