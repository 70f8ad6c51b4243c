use Rattle.std.proofs.Common.{◌≡◌, replicate, []}
use Rattle.std.specs.List.{All}
use Rattle.eos_broker.specs.Held.{IsKeptFor, items_of}
use Rattle.eos_broker.proofs.store.empty_logs.Given as goal

abbrev pub invariant-loop : goal.invariant-loop
invariant-loop l = (items_of l.logs.items ≡ replicate l.counter []) × All (IsKeptFor l.applications 0) l.logs.items
