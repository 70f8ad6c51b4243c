use Rattle.std.proofs.Common.{◌≡◌, pos, drop}
use Rattle.eos_machine.specs.Elections.{epoch_from}
use Rattle.eos_machine.proofs.state.leader_epoch.Given as goal

abbrev pub invariant-loop-election : goal.invariant-loop-election
invariant-loop-election l = epoch_from l.place (pos l.offset) 0 l.elections ≡ epoch_from l.place (pos l.offset) l.epoch (drop l.election-index l.elections)
