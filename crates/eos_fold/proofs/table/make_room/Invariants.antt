use Rattle.std.proofs.Common.{◌≡◌, ◌⊎◌, Some, ℤ}
use Rattle.std.specs.Ordering.{int_cmp}
use Rattle.std.specs.Map.{lookup}
use Rattle.std.specs.BTreeMap.{get, is_at}
use Rattle.eos_fold.specs.declared.ends.Ends.{Ends}
use Rattle.eos_fold.specs.Tables.{ends_at}
use Rattle.eos_fold.specs.Taken.{IsReadyFor}
use Rattle.eos_fold.specs.Summaries.{SameEnds}
use Rattle.eos_fold.proofs.table.make_room.Given as goal

abbrev pub invariant-loop-producer : goal.invariant-loop-producer
invariant-loop-producer l = record {
  same : (id : ℤ) → SameEnds (ends_at l.fn.producers id) (ends_at l.producers id);
  ready : (id : ℤ) (ends : Ends) → get int_cmp l.after id ≡ Some ends → IsReadyFor l.producers id ends ⊎ (lookup (is_at (int_cmp id)) l.rest ≡ Some ends);
}
