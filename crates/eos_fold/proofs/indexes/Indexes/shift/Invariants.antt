use Rattle.std.proofs.Common.{◌≡◌, ◌+◌, ◌++◌, take, drop, map, length}
use Rattle.eos_fold.proofs.indexes.Indexes.shift.Given as goal

abbrev pub invariant-loop-place : goal.invariant-loop-place
invariant-loop-place l = record {
  moved : l.place-items ≡ map (λ p. p + l.by) (take l.place-index l.fn.self.list) ++ drop l.place-index l.fn.self.list;
  all : length l.place-items ≡ length l.fn.self.list;
}
