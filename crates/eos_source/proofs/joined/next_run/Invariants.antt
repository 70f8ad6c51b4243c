use Rattle.std.specs.Vec.Iter.{into_iter_items}
use Rattle.eos_source.specs.steps.Runs.{ArePassed}
use Rattle.eos_source.proofs.PiecesJoined.{Passed}
use Rattle.eos_source.proofs.joined.next_run.Given as goal

abbrev pub invariant-loop : goal.invariant-loop
invariant-loop g l = Passed l.names (into_iter_items l.fn.slots) l.counter l.run (into_iter_items l.slots) × ArePassed l.counter (into_iter_items l.fn.slots) (into_iter_items l.slots)
