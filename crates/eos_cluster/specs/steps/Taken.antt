-- A message on its way: a refusal, or what is done.
use Rattle.std.specs.Prelude.{ℕ, Bool, true, false, [], length, if◌then◌else◌, Option, Some, None, Result, Ok, Err, ⊤}
use Rattle.eos_batch.specs.declared.marker.Kind.{Kind}
use Rattle.eos_machine.specs.declared.config.Config.{Config}
use Rattle.eos_machine.specs.declared.switches.Switches.{Switches}
use Rattle.eos_machine.specs.World.{World, coord_at, log_at, prepared, finished}
use Rattle.eos_machine.specs.declared.state.Coordinator.{Coordinator}
use Rattle.eos_machine.specs.declared.item.Item.{Item}
use Rattle.eos_machine.specs.declared.state.Message.{Message}
use Rattle.eos_machine.specs.declared.state.Message.TheVariants as messages
use Rattle.eos_machine.specs.declared.event.Reply.{Reply}
use Rattle.eos_machine.specs.declared.event.Reply.TheVariants.{Done, Fenced, Busy}
use Rattle.eos_machine.specs.Answers.{Answer, when}
use Rattle.eos_machine.specs.Deliveries.{appended, accept, without, ticked}
use Rattle.eos_machine.specs.Tests.{is_current, is_prepare, is_nil, ongoing_partitions}
use Rattle.eos_broker.specs.Named.{IsFrom}
use Rattle.eos_cluster.specs.declared.accept.Request.{Request}
use Rattle.eos_cluster.specs.declared.accept.Arrival.{Arrival}

-- a message with data, not with the end of a transaction
abbrev pub IsData : Message → Type 0
IsData (messages.Output a e p s x v) = ⊤
IsData (messages.Offset a e g q v) = ⊤
IsData (messages.End a e k) = ⊥
IsData (messages.Marker a e k p) = ⊥

-- data of an old epoch: no transaction lists it, or it is refused
abbrev pub fence : Switches → Result Bool Reply
fence u = if u.no_fence then Ok false else Err Fenced

-- data at the coordinator: whether its transaction lists them, or the refusal
abbrev pub admitted : Switches → Coordinator → ℕ → Result Bool Reply
admitted u s e = if is_current s e then (if is_prepare s.status then Err Busy else Ok true) else fence u

-- data by this item: whether its transaction lists it, or the refusal
abbrev pub judged : Switches → Config → World → Request → Item → Result Bool Reply → Answer
judged u c w h x (Err r) = (w, r)
judged u c w h x (Ok t) = (if t then accept u c w h.number h.application h.place x else appended w h.number h.place x, Done (length (log_at w h.place)))

-- the batch that is appended
abbrev pub taken : Switches → Config → World → Request → Result Arrival Reply → Answer
taken u c w h (Err r) = (w, r)
taken u c w h (Ok y) = judged u c w h y.item (Ok y.is_listed)

abbrev pub IsFromIf : ℕ → Arrival → Type 0
IsFromIf n y = IsFrom n y.item

-- the end of a transaction
abbrev pub ended : Switches → Config → World → ℕ → Kind → Option Reply → Answer
ended u c w a k (Some r) = (w, r)
ended u c w a k None =
    when (is_nil (ongoing_partitions (coord_at w a).status (coord_at w a).partitions)) (finished u c (prepared u c w a k []) a k, Done (length w.messages)) (
    (prepared u c w a k (ongoing_partitions (coord_at w a).status (coord_at w a).partitions), Done (length w.messages)))

-- an end marker that the coordinator waits for: after the last one the transaction is complete
abbrev pub settled : Switches → Config → World → ℕ → ℕ → Kind → ℕ → World
settled u c w a m k p = if is_nil (without p (coord_at w a).awaited) then finished u c (ticked u c w a m k p) a k else ticked u c w a m k p
