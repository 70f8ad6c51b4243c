use Rattle.std.proofs.Common.{◌≡◌, ◌++◌, ◌∷◌, map, drop}
use Rattle.eos_machine.specs.Batches.{event_of, record_after}
use Rattle.eos_log_writer.proofs.batches.records_of.Given as goal

abbrev pub invariant-loop-i : goal.invariant-loop-i
invariant-loop-i l =
    map (record_after l.config (event_of l.first)) (l.first ∷ l.behind) ≡ l.records.items ++ map (record_after l.config (event_of l.first)) (drop l.i l.behind)
