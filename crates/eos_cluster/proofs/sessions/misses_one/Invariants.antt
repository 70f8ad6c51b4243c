use Rattle.std.proofs.Common.{◌≡◌, drop}
use Rattle.std.specs.List.{list_any}
use Rattle.eos_machine.specs.Sessions.{is_missing}
use Rattle.eos_cluster.proofs.sessions.misses_one.Given as goal

abbrev pub invariant-loop-message : goal.invariant-loop-message
invariant-loop-message l = list_any (is_missing l.store.world) l.messages ≡ list_any (is_missing l.store.world) (drop l.message-index l.messages)
