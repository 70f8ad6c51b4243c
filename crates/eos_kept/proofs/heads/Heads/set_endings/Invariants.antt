use Rattle.std.proofs.Common.{◌≡◌, length}
use Rattle.eos_fold.specs.Settling.{ended}
use Rattle.eos_kept.proofs.HeadLists.{SetsOn}
use Rattle.eos_kept.proofs.heads.Heads.set_endings.Given as goal

abbrev pub invariant-loop-place : goal.invariant-loop-place
invariant-loop-place l = record {
  set : SetsOn (ended l.marker) l.place-items l.place-index l.fn.self.list l.self.list;
  all : length l.self.list ≡ length l.fn.self.list;
  room : l.self.room ≡ l.fn.self.room;
}
