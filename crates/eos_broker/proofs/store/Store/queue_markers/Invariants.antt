use Rattle.std.proofs.Common.{◌≡◌, take}
use Rattle.eos_machine.specs.World.{with_messages, due_markers}
use Rattle.eos_broker.specs.Held.{becomes}
use Rattle.eos_broker.proofs.store.Store.queue_markers.Given as goal

abbrev pub invariant-loop-place : goal.invariant-loop-place
invariant-loop-place l = l.self ≡ becomes l.initial.self (with_messages l.initial.self.world (due_markers l.application l.epoch l.kind (take l.place-index l.places))) l.place-index
