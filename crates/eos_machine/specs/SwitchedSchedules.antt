-- A short schedule under each switch, with what is answered and what stands in the logs after it.
use Rattle.std.specs.Prelude.{◌≡◌, pos, List, [], ◌∷◌, Some, map}
use Rattle.eos_batch.specs.declared.marker.Kind.TheVariants.{Commit, Abort}
use Rattle.eos_machine.specs.declared.switches.Switch.{Switch}
use Rattle.eos_machine.specs.declared.switches.Switch.TheVariants.{KeepDuplicates, NoFence, NoBump, LoseMarker, SwapMarker, HideListing, IgnoreGeneration}
use Rattle.eos_machine.specs.declared.switches.Switches.{Switches}
use Rattle.eos_machine.specs.Switching.{only}
use Rattle.eos_machine.specs.World.{World, Event, Reply, Empty, Ongoing, Prepare, Complete, State, Output, Offset, Marker, opening, log_at}
use Rattle.eos_machine.specs.declared.event.Event.TheVariants as events
use Rattle.eos_machine.specs.Answers.{Done}
use Rattle.eos_machine.specs.Machine.{world_under, replies_under}
use Rattle.eos_machine.specs.ShortSchedules.{pair, claim}

-- each event under these switches
abbrev pub all_under : Switches → List Event → List (Switches × Event)
all_under u es = map (λ e. (u, e)) es

abbrev pub AnswersWith : Switch → List Event → List Reply → Type 0
AnswersWith s es rs = replies_under pair (opening pair) (all_under (only s) es) ≡ rs

abbrev pub after_with : Switch → List Event → World
after_with s es = world_under pair (opening pair) (all_under (only s) es)

-- a record comes twice
abbrev pub twice : List Event
twice = events.Start 0 ∷ events.Produce 0 0 claim ∷ events.Deliver 0 ∷ events.Deliver 0 ∷ []

-- a record comes after its transaction was aborted
abbrev pub late : List Event
late =
    events.Start 0 ∷ events.Produce 0 0 claim ∷ events.Produce 0 0 claim ∷ events.Deliver 0 ∷ events.End 0 Abort ∷ events.Deliver 2 ∷ events.Deliver 3 ∷ events.Deliver 1 ∷ []

-- a record is committed
abbrev pub one : List Event
one =
    events.Start 0 ∷ events.Produce 0 0 claim ∷ events.Deliver 0 ∷ events.End 0 Commit ∷ events.Deliver 1 ∷ events.Deliver 2 ∷ []

-- a record in each partition of `out`
abbrev pub both : List Event
both =
    events.Start 0 ∷ events.Produce 0 0 claim ∷ events.Produce 0 1 claim ∷ events.Deliver 0 ∷ events.Deliver 1 ∷ events.End 0 Commit ∷ events.Deliver 2 ∷ events.Deliver 3 ∷ events.Deliver 4 ∷ []

-- the members of the group change before an offset comes
abbrev pub changed : List Event
changed = events.Start 0 ∷ events.Commit 0 0 (Some (pos 1)) ∷ events.Members 0 ∷ events.Deliver 0 ∷ []

pub record Breaks : Type 0 where
  pub duplicates : AnswersWith KeepDuplicates twice (Done 0 ∷ Done 0 ∷ Done 0 ∷ Done 1 ∷ [])
  pub duplicated : log_at (after_with KeepDuplicates twice) 4 ≡ Output 0 0 0 claim 1 2 ∷ Output 0 0 0 claim 1 3 ∷ []
  pub fence : AnswersWith NoFence late (Done 0 ∷ Done 0 ∷ Done 1 ∷ Done 0 ∷ Done 2 ∷ Done 3 ∷ Done 1 ∷ Done 2 ∷ [])
  pub unfenced : log_at (after_with NoFence late) 4 ≡ Output 0 0 0 claim 1 3 ∷ Marker 0 1 Abort 6 ∷ Output 0 0 1 claim 2 7 ∷ []
  pub bump : AnswersWith NoBump one (Done 0 ∷ Done 0 ∷ Done 0 ∷ Done 1 ∷ Done 2 ∷ Done 1 ∷ [])
  pub unbumped : log_at (after_with NoBump one) 4 ≡ Output 0 0 0 claim 1 2 ∷ Marker 0 0 Commit 5 ∷ []
  pub marker : AnswersWith LoseMarker one (Done 0 ∷ Done 0 ∷ Done 0 ∷ Done 1 ∷ Done 2 ∷ Done 1 ∷ [])
  pub lost : log_at (after_with LoseMarker one) 4 ≡ Output 0 0 0 claim 1 2 ∷ []
  pub kind : AnswersWith SwapMarker both (Done 0 ∷ Done 0 ∷ Done 1 ∷ Done 0 ∷ Done 0 ∷ Done 2 ∷ Done 3 ∷ Done 1 ∷ Done 1 ∷ [])
  pub even : log_at (after_with SwapMarker both) 4 ≡ Output 0 0 0 claim 1 3 ∷ Marker 0 1 Commit 7 ∷ []
  pub odd : log_at (after_with SwapMarker both) 5 ≡ Output 0 0 0 claim 2 4 ∷ Marker 0 1 Abort 8 ∷ []
  pub listing : log_at (after_with HideListing both) 1 ≡ State 0 (record { status = Empty; epoch = 0; partitions = [] }) 0
      ∷ State 0 (record { status = Ongoing; epoch = 0; partitions = 4 ∷ [] }) 3
      ∷ State 0 (record { status = Ongoing; epoch = 0; partitions = 4 ∷ [] }) 4
      ∷ State 0 (record { status = Prepare Commit; epoch = 1; partitions = 4 ∷ [] }) 6
      ∷ State 0 (record { status = Complete Commit; epoch = 1; partitions = [] }) 8 ∷ []
  pub hidden : log_at (after_with HideListing both) 5 ≡ Output 0 0 0 claim 2 4 ∷ Marker 0 1 Commit 8 ∷ []
  pub generation : AnswersWith IgnoreGeneration changed (Done 0 ∷ Done 0 ∷ Done 0 ∷ Done 0 ∷ [])
  pub ignored : log_at (after_with IgnoreGeneration changed) 0 ≡ Offset 0 0 0 (Some 1) 3 ∷ []
