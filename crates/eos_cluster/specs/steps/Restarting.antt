-- What the last record of a log says.
use Rattle.std.specs.Prelude.{Option, Some, None}
use Rattle.std.specs.Borrow.{Bor}
use Rattle.eos_machine.specs.World.{state_of}
use Rattle.eos_machine.specs.declared.state.Message.{Message}
use Rattle.eos_machine.specs.declared.state.Message.TheVariants as messages
use Rattle.eos_cluster.specs.declared.deliver_marker.EndMarker.{EndMarker}
use Rattle.eos_machine.specs.declared.state.Coordinator.{Coordinator}
use Rattle.eos_machine.specs.declared.item.Entry.{Entry}

-- the state of a record, if there is one
abbrev pub said_by : Option (Bor Entry) → Coordinator → Coordinator
said_by None s = s
said_by (Some x) s = state_of x.now

abbrev pub due_message : EndMarker → Message
due_message d = messages.Marker d.application d.epoch d.kind d.place
