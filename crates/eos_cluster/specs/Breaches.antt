-- The rules that are broken where a message is taken: a cluster that keeps its rules refuses it there, or writes it otherwise.
use Rattle.std.specs.Prelude.{ℕ, Bool, true, false, not, ◌&&◌, ◌||◌, Option, None, Some, slice_get, if◌then◌else◌}
use Rattle.eos_machine.specs.declared.config.Config.{Config}
use Rattle.eos_machine.specs.declared.switches.Switches.{Switches}
use Rattle.eos_machine.specs.declared.switches.Switch.TheVariants.{KeepDuplicates, NoFence, NoBump, IgnoreGeneration}
use Rattle.eos_machine.specs.declared.state.Message.{Message}
use Rattle.eos_machine.specs.declared.state.Message.TheVariants as messages
use Rattle.eos_machine.specs.declared.event.Event.TheVariants as events
use Rattle.eos_machine.specs.declared.event.Reply.{Reply}
use Rattle.eos_machine.specs.declared.event.Reply.TheVariants.{Done, Fenced, OutOfOrder, DuplicateKept, WrongState, Busy, StaleGeneration, EpochsSpent, Unknown, OutOfMemory, Full}
use Rattle.eos_machine.specs.LogIndexes.{offsets_index, written_index, is_odd_output}
use Rattle.eos_machine.specs.Switching.{none, only}
use Rattle.eos_machine.specs.World.{World}
use Rattle.eos_machine.specs.Machine.{reread, step}
use Rattle.eos_machine.specs.Tests.{has, waits_for}
use Rattle.eos_machine.specs.declared.state.Coordinator.{Coordinator}
use Rattle.eos_batch.specs.declared.marker.Kind.{Kind}

abbrev pub is_marker : Option Message → Bool
is_marker None = false
is_marker (Some (messages.Output a e p s x v)) = false
is_marker (Some (messages.Offset a e g q v)) = false
is_marker (Some (messages.End a e k)) = false
is_marker (Some (messages.Marker a m k p)) = true

-- the rule that this answer to an end marker, or to another message, keeps: none if it is taken, and none by an answer that no switch changes
abbrev pub kept_by : Bool → Reply → Switches
kept_by marker (Done n) = none
kept_by marker Fenced = if marker then only NoBump else only NoFence
kept_by marker OutOfOrder = only KeepDuplicates
kept_by marker DuplicateKept = only KeepDuplicates
kept_by marker StaleGeneration = only IgnoreGeneration
kept_by marker WrongState = none
kept_by marker Busy = none
kept_by marker EpochsSpent = none
kept_by marker Unknown = none
kept_by marker OutOfMemory = none
kept_by marker Full = none

-- the last record of an end marker's application decides its transaction, and doesn't list its partition
abbrev pub is_unlisted : Coordinator → ℕ → Kind → ℕ → Bool
is_unlisted s m k p = waits_for s.status s.epoch m k && not (has p s.partitions)

-- those by which an end marker isn't written, or is with the epoch of the data, or of the other kind, or in a partition that its transaction
-- doesn't list
abbrev pub altered_marker : Switches → Config → Coordinator → ℕ → Kind → ℕ → Switches → Switches
altered_marker u c s m k p kept = record kept {
  no_bump = kept.no_bump || (u.no_bump && not u.lose_marker);
  lose_marker = u.lose_marker;
  swap_marker = u.swap_marker && (is_odd_output c p && not u.lose_marker);
  hide_listing = is_unlisted s m k p && not u.lose_marker;
}

-- and those by which any message is written otherwise than it asks: a record goes to a partition that its transaction doesn't list
abbrev pub altered : Switches → Config → World → Option Message → Switches → Switches
altered u c w None kept = kept
altered u c w (Some (messages.Output a e p s x v)) kept = record kept { hide_listing = u.hide_listing && is_odd_output c (written_index c a p) }
altered u c w (Some (messages.Offset a e g q v)) kept = kept
altered u c w (Some (messages.End a e k)) kept = kept
altered u c w (Some (messages.Marker a m k p)) kept = altered_marker u c (reread c w a) m k p kept

-- where the message of this number is taken
abbrev pub broken : Switches → Config → World → ℕ → Switches
broken u c w n = altered u c w (slice_get w.messages n) (kept_by (is_marker (slice_get w.messages n)) (step c w (events.Deliver n)).1)

-- in which log a message is to stand, by its place; an end at none, for which 0 is said
abbrev pub log_of : Config → Option Message → ℕ
log_of c None = 0
log_of c (Some (messages.Output a e p s x v)) = written_index c a p
log_of c (Some (messages.Offset a e g q v)) = offsets_index
log_of c (Some (messages.End a e k)) = 0
log_of c (Some (messages.Marker a m k p)) = p
