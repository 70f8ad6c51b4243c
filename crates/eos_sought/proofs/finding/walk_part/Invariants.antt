use Rattle.std.proofs.Common.{◌≡◌, ◌++◌, length, List, drop, take}
use Rattle.eos_sought.specs.declared.finding.Find.{Find}
use Rattle.eos_sought.specs.Finds.{among, AreFirst}
use Rattle.eos_sought.proofs.finding.walk_part.Given as goal

abbrev pub invariant-loop-item : goal.invariant-loop-item
invariant-loop-item l = record {
  most : l.finds.most ≡ l.fn.finds.most;
  left : l.left ≡ drop l.i l.part.items;
  taken : (xs : List Find) → AreFirst xs l.fn.finds → AreFirst (xs ++ among l.sought l.part (take l.i l.part.items)) l.finds;
}

abbrev pub decreases-loop-item : goal.decreases-loop-item
decreases-loop-item l = length l.left
