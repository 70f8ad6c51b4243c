-- Whatever events a cluster has taken, there is evidence of its logs within the room.
use Rattle.std.proofs.Common.{◌*◌, List, [], ◌∷◌, refl, sym, subst}
use Rattle.std.specs.List.{All}
use Rattle.std.proofs.lemmas.List.Elements.{All-nil, All-cons, All-head, All-tail, All-weaker}
use Rattle.eos_wire.specs.Numbers.{IsBytes}
use Rattle.eos_machine.specs.declared.config.Config.{Config}
use Rattle.eos_machine.specs.declared.switches.Switches.{Switches}
use Rattle.eos_machine.specs.declared.event.Event.{Event}
use Rattle.eos_machine.specs.declared.event.Event.TheVariants as events
use Rattle.eos_machine.specs.declared.item.Item.{Item}
use Rattle.eos_machine.specs.declared.item.Item.TheVariants.{Fed, State, Output, Offset, Marker}
use Rattle.eos_machine.specs.LogIndexes.{IsConfig}
use Rattle.eos_machine.specs.Switching.{none}
use Rattle.eos_machine.specs.SwitchedSchedules.{all_under}
use Rattle.eos_machine.specs.World.{World, opening, log_at}
use Rattle.eos_machine.specs.Machine.{world_after, world_under}
use Rattle.eos_machine.specs.Elections.{LosesNothing}
use Rattle.eos_machine.specs.Rest.{IsAtRest}
use Rattle.eos_machine.proofs.Computed.{none_is}
use Rattle.eos_machine.specs.Evidences.{parts_of, HasRoomForAll}
use Rattle.eos_machine.specs.Schedules.{IsOfSchedule}
use Rattle.eos_machine.proofs.AcceptedParts.{accepted_parts}
use Rattle.eos_machine.proofs.AllAdded.{segments_added}
use Rattle.eos_machine.proofs.KeptItems.{KeptItem, TopicIs, log_kept}
use Rattle.eos_machine.proofs.ReachedItems.{kept_run, kept_opening, writable}
use Rattle.eos_simulate.proofs.EverySchedule.{right_logs, no_fault_in_logs}
use Rattle.eos_simulate.specs.Leaving.{SendsBytes, LeavesEvidence, LeavesRightEvidence}
use Rattle.eos_simulate.proofs.AddedEvidence.{is_evidence}
use Rattle.eos_simulate.proofs.ItemTexts.{HasBytes, have_texts}

-- ---- the claims' topics

one_topic : (e : Event) → SendsBytes e → TopicIs IsBytes e
one_topic (events.Feed p) h = tt
one_topic (events.Start a) h = tt
one_topic (events.Produce n p x) h = λ l. h
one_topic (events.Commit n q v) h = tt
one_topic (events.End n k) h = tt
one_topic (events.Resume n) h = tt
one_topic (events.Fetch n q) h = tt
one_topic (events.Members g) h = tt
one_topic (events.BrokerRestart t p) h = tt
one_topic events.CoordinatorRestart h = tt
one_topic (events.Deliver n) h = tt
one_topic (events.TimeOut a) h = tt
one_topic (events.AddPartition n p) h = tt
one_topic (events.WriteMarker n) h = tt
one_topic (events.Complete a) h = tt
one_topic (events.Elect t p k) h = tt

item_bytes : (c : Config) (x : Item) → KeptItem IsBytes c x → HasBytes x
item_bytes c (Fed n) h = tt
item_bytes c (State a x n) h = tt
item_bytes c (Output a e s x v n) h = h.1
item_bytes c (Offset a e q v n) h = tt
item_bytes c (Marker a e k n) h = tt

-- ---- under any switches

pub leaves : (c : Config) (xs : List (Switches × Event)) → IsConfig c → All (λ x. SendsBytes x.1) xs → HasRoomForAll c (world_under c (opening c) xs) → LeavesEvidence c (world_under c (opening c) xs)
leaves c xs i b r =
    let w : World = world_under c (opening c) xs in
    let g = writable c xs i r in
    let a = segments_added c w g in
    let k = kept_run IsBytes c (opening c) xs (All-weaker (λ x. SendsBytes x.1) (λ x. TopicIs IsBytes x.1) (λ x h. one_topic x.1 h) xs b) (kept_opening IsBytes c) in
    record {
      evidence = a.after;
      is_evidence = is_evidence c w a.after g a.is;
      of_logs = record {
        spec = parts_of c w;
        accepted = accepted_parts c w i g.short;
        added = a.is;
        written = λ p l. have_texts c p w.elections (log_at w p) i g.elections (g.short p) (g.fit p) (All-weaker (KeptItem IsBytes c) HasBytes (item_bytes c) (log_at w p) (log_kept IsBytes c (2 * w.events) w p k.kept));
      };
    }

-- ---- under none

none_bytes : (es : List Event) → All SendsBytes es → All (λ x. SendsBytes x.1) (all_under none es)
none_bytes [] h = All-nil (λ x. SendsBytes x.1)
none_bytes (e ∷ es) h = All-cons (λ x. SendsBytes x.1) (none, e) (all_under none es) (All-head SendsBytes e es h) (none_bytes es (All-tail SendsBytes e es h))

of_schedule : (c : Config) (es : List Event) → IsConfig c → LosesNothing (world_after c (opening c) es) → IsAtRest (world_after c (opening c) es) → LeavesEvidence c (world_after c (opening c) es) → LeavesRightEvidence c (world_after c (opening c) es)
of_schedule c es i n h l =
    let s : IsOfSchedule l.evidence = record { config = c; world = world_after c (opening c) es; events = es; sizes = i; world_after = refl; lossless = n; rest = h; evidence = l.of_logs } in
    record {
      evidence = l.evidence;
      is_evidence = l.is_evidence;
      of_logs = l.of_logs;
      schedule = s;
      right = right_logs l.evidence s;
      faultless = no_fault_in_logs l.evidence l.is_evidence s;
    }

pub leaves_right : (c : Config) (es : List Event) → IsConfig c → All SendsBytes es → LosesNothing (world_after c (opening c) es) → IsAtRest (world_after c (opening c) es) → HasRoomForAll c (world_after c (opening c) es) → LeavesRightEvidence c (world_after c (opening c) es)
leaves_right c es i b n h r =
    let e = none_is c (opening c) es in
    of_schedule c es i n h (subst (LeavesEvidence c) e (leaves c (all_under none es) i (none_bytes es b) (subst (HasRoomForAll c) (sym e) r)))
