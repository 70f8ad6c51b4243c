use Rattle.std.proofs.Common.{◌≡◌, ◌≤◌, ◌-◌, List, length}
use Rattle.std.specs.Prelude.{All}
use Rattle.eos_batch.specs.declared.record.Record.{Record}
use Rattle.eos_fold_file.specs.steps.TextLists.{texts_of, IsUnsaid}
use Rattle.eos_fold_file.proofs.fold_texts.pad.Given as goal

abbrev pub invariant-loop-claims : goal.invariant-loop-claims
invariant-loop-claims l = record {
  same : (rs : List Record) → length rs ≡ l.count → texts_of rs l.claims.items ≡ texts_of rs l.fn.claims.items;
  unsaid : All IsUnsaid l.fn.claims.items → All IsUnsaid l.claims.items;
  few : length l.claims.items ≤ l.count;
}

abbrev pub decreases-loop-claims : goal.decreases-loop-claims
decreases-loop-claims l = l.count - length l.claims.items
