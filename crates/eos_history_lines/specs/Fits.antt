-- What a line of a history may hold: topics that are UTF-8, and numbers that their types hold.
use Rattle.std.specs.Prelude.{◌≡◌, true, IfSome, FitsSigned, ⊤}
use Rattle.std.specs.Int.{w32, w64}
use Rattle.std.specs.Str.{is_utf8}
use Rattle.eos_machine.specs.declared.item.Claim.{Claim}
use Rattle.eos_machine.specs.declared.event.Event.{Event}
use Rattle.eos_machine.specs.declared.event.Event.TheVariants.{Feed, Start, Produce, Commit, End, Resume, Fetch, Members, BrokerRestart, CoordinatorRestart, Deliver, TimeOut, AddPartition, WriteMarker, Complete, Elect}
use Rattle.eos_history_lines.specs.declared.line.Deed.{Deed}
use Rattle.eos_history_lines.specs.declared.line.Deed.TheVariants.{Asked, Set, Noted}
use Rattle.eos_machine.specs.declared.event.Note.{Note}
use Rattle.eos_machine.specs.declared.event.Note.TheVariants as notes
use Rattle.eos_history_lines.specs.declared.line.Row.{Row}
use Rattle.eos_history_lines.specs.declared.line.Row.TheVariants as rows

pub record FitsClaim (c : Claim) : Type 0 where
  pub topic : is_utf8 c.topic ≡ true
  pub partition : FitsSigned w32 c.partition
  pub offset : FitsSigned w64 c.offset
  pub output : FitsSigned w32 c.output
  pub of : FitsSigned w32 c.of

abbrev pub FitsEvent : Event → Type 0
FitsEvent (Feed source) = ⊤
FitsEvent (Start application) = ⊤
FitsEvent (Produce session partition claim) = IfSome claim FitsClaim
FitsEvent (Commit session source offset) = IfSome offset (FitsSigned w64)
FitsEvent (End session kind) = ⊤
FitsEvent (Resume session) = ⊤
FitsEvent (Fetch session source) = ⊤
FitsEvent (Members group) = ⊤
FitsEvent (BrokerRestart topic partition) = is_utf8 topic ≡ true
FitsEvent CoordinatorRestart = ⊤
FitsEvent (Deliver message) = ⊤
FitsEvent (TimeOut application) = ⊤
FitsEvent (AddPartition session partition) = ⊤
FitsEvent (WriteMarker message) = ⊤
FitsEvent (Complete application) = ⊤
FitsEvent (Elect topic partition kept) = is_utf8 topic ≡ true

abbrev pub FitsNote : Note → Type 0
FitsNote (notes.Lost message) = ⊤
FitsNote (notes.Repeated message) = ⊤
FitsNote (notes.Erred mishap) = is_utf8 mishap ≡ true

abbrev pub FitsDeed : Deed → Type 0
FitsDeed (Asked event reply) = FitsEvent event
FitsDeed (Set switches) = ⊤
FitsDeed (Noted note) = FitsNote note

abbrev pub FitsRow : Row → Type 0
FitsRow (rows.Line l) = FitsDeed l.deed
FitsRow (rows.Tail t) = ⊤
