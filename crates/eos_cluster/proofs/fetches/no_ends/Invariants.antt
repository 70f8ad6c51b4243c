use Rattle.std.proofs.Common.{◌≡◌, replicate, None}
use Rattle.eos_cluster.proofs.fetches.no_ends.Given as goal

abbrev pub invariant-loop : goal.invariant-loop
invariant-loop l = l.ends.items ≡ replicate l.counter None
