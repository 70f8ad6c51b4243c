use Rattle.std.proofs.Common.{◌≡◌, List, drop}
use Rattle.eos_batch.specs.declared.record.Record.{Record}
use Rattle.eos_kept.specs.Items.{items_under}
use Rattle.eos_kept.proofs.batches.empty_before.Given as goal

abbrev pub invariant-loop-i : goal.invariant-loop-i
invariant-loop-i l = (rs : List Record) → items_under l.heads 0 rs ≡ items_under (drop l.i l.heads) 0 rs
