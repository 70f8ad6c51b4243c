use Rattle.std.proofs.Common.{◌≡◌, drop, vec_len}
use Rattle.eos_machine.specs.LogIndexes.{application_count}
use Rattle.eos_cluster.specs.steps.Fetching.{AreEnds, IsFetched}
use Rattle.eos_cluster.proofs.fetches.read_back.Given as goal

abbrev pub invariant-loop-i : goal.invariant-loop-i
invariant-loop-i l =
    IsFetched l.source l.fetched (drop l.i l.log)
    × AreEnds l.ends.items (drop l.i l.log)
    × (vec_len l.ends ≡ application_count l.store.config)
