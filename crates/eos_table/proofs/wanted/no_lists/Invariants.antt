use Rattle.std.proofs.Common.{◌≡◌, ◌≤◌, [], All, Vec, Global, length}
use Rattle.eos_fold.specs.declared.close.Close.{Close}
use Rattle.eos_table.proofs.wanted.no_lists.Given as goal

abbrev pub invariant-loop-i : goal.invariant-loop-i
invariant-loop-i l = (length l.lists.items ≡ l.i) × (l.i ≤ length l.parts) × All (λ (v : Vec Close Global). v.items ≡ []) l.lists.items
