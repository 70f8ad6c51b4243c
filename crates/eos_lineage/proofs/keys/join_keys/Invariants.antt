use Rattle.eos_lineage.proofs.KeysJoined.{KeyedAll}
use Rattle.eos_lineage.proofs.keys.join_keys.Given as goal

abbrev pub invariant-loop-keys : goal.invariant-loop-keys
invariant-loop-keys l = KeyedAll l.yielded l.all
