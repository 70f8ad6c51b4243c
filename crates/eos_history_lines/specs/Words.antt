-- The words of a history: the names of events, of replies and of the two ends of a transaction.
use Rattle.std.specs.Prelude.{ℕ, List, codes}
use Rattle.eos_batch.specs.declared.marker.Kind.{Kind}
use Rattle.eos_batch.specs.declared.marker.Kind.TheVariants as kinds
use Rattle.eos_machine.specs.declared.event.Note.{Note}
use Rattle.eos_machine.specs.declared.event.Note.TheVariants as notes
use Rattle.eos_machine.specs.declared.event.Event.{Event}
use Rattle.eos_machine.specs.declared.event.Event.TheVariants.{Feed, Start, Produce, Commit, End, Resume, Fetch, Members, BrokerRestart, CoordinatorRestart, Deliver, TimeOut, AddPartition, WriteMarker, Complete, Elect}
use Rattle.eos_machine.specs.declared.event.Reply.{Reply}
use Rattle.eos_machine.specs.declared.event.Reply.TheVariants.{Done, Fenced, OutOfOrder, DuplicateKept, WrongState, Busy, StaleGeneration, EpochsSpent, Unknown, OutOfMemory, Full}

abbrev pub kind_word : Kind → List ℕ
kind_word kinds.Commit = codes "commit"
kind_word kinds.Abort = codes "abort"

abbrev pub note_word : Note → List ℕ
note_word (notes.Lost message) = codes "lost"
note_word (notes.Repeated message) = codes "repeated"
note_word (notes.Erred mishap) = codes "mishap"

abbrev pub event_word : Event → List ℕ
event_word (Feed source) = codes "feed"
event_word (Start application) = codes "start"
event_word (Produce session partition claim) = codes "produce"
event_word (Commit session source offset) = codes "commit"
event_word (End session kind) = codes "end"
event_word (Resume session) = codes "resume"
event_word (Fetch session source) = codes "fetch"
event_word (Members group) = codes "members"
event_word (BrokerRestart topic partition) = codes "broker-restart"
event_word CoordinatorRestart = codes "coordinator-restart"
event_word (Deliver message) = codes "deliver"
event_word (TimeOut application) = codes "time-out"
event_word (AddPartition session partition) = codes "add-partition"
event_word (WriteMarker message) = codes "write-marker"
event_word (Complete application) = codes "complete"
event_word (Elect topic partition kept) = codes "elect"

abbrev pub reply_word : Reply → List ℕ
reply_word (Done number) = codes "done"
reply_word Fenced = codes "fenced"
reply_word OutOfOrder = codes "out-of-order"
reply_word DuplicateKept = codes "duplicate-kept"
reply_word WrongState = codes "wrong-state"
reply_word Busy = codes "busy"
reply_word StaleGeneration = codes "stale-generation"
reply_word EpochsSpent = codes "epochs-spent"
reply_word Unknown = codes "unknown"
reply_word OutOfMemory = codes "out-of-memory"
reply_word Full = codes "full"
