-- An event that happens is never answered OutOfMemory or Full.
use Rattle.std.proofs.Common.{◌≡◌, ap, subst, sym, ℕ, ◌+◌, Bool, true, false, Option, Some, None, pos, negsuc, if◌then◌else◌}
use Rattle.std.specs.Prelude.{slice_get, length}
use Rattle.eos_batch.specs.declared.marker.Kind.{Kind}
use Rattle.eos_batch.specs.declared.marker.Kind.TheVariants.{Abort}
use Rattle.eos_machine.specs.declared.config.Config.{Config}
use Rattle.eos_machine.specs.declared.state.Message.{Message}
use Rattle.eos_machine.specs.declared.state.Message.TheVariants as messages
use Rattle.eos_machine.specs.declared.state.Session.{Session}
use Rattle.eos_machine.specs.declared.item.Claim.{Claim}
use Rattle.eos_machine.specs.declared.event.Event.{Event}
use Rattle.eos_machine.specs.declared.event.Event.TheVariants as events
use Rattle.eos_machine.specs.declared.event.Reply.{Reply}
use Rattle.eos_machine.specs.declared.event.Reply.TheVariants.{Done, Fenced}
use Rattle.eos_machine.specs.declared.switches.Switches.{Switches}
use Rattle.eos_machine.specs.declared.item.Status.{Status}
use Rattle.eos_machine.specs.declared.item.Status.TheVariants.{Empty, Ongoing, Prepare, Complete}
use Rattle.eos_machine.specs.declared.item.Item.{Item}
use Rattle.eos_machine.specs.declared.item.Item.TheVariants.{Output, Offset}
use Rattle.eos_machine.specs.LogIndexes.{offsets_index, written_index}
use Rattle.eos_machine.specs.World.{World, coord_at, log_at}
use Rattle.eos_machine.specs.Answers.{Answer, when}
use Rattle.eos_machine.specs.Sessions.{resume_ended, produce, commit_offset, end_session, resume, fetch}
use Rattle.eos_machine.specs.Deliveries.{appended, fenced, deliver, write_marker, complete_prepared}
use Rattle.eos_machine.specs.Elections.{electable_at, elect}
use Rattle.eos_machine.specs.Machine.{start_session, add_partition, happens_under}
use Rattle.eos_broker.specs.steps.Proper.{IsProper}

abbrev IsProperAnswer : Answer → Type 0
IsProperAnswer x = IsProper x.1

either : (t : Bool) (x y : Answer) → IsProperAnswer x → IsProperAnswer y → IsProperAnswer (when t x y)
unfolding when
either true x y p q = p
either false x y p q = q

resumed : (c : Config) (w : World) (n : ℕ) (s : Session) (k : Option Kind) → IsProperAnswer (resume_ended c w n s k)
resumed c w n s None = tt
resumed c w n s (Some k) = either _ _ _ tt (either _ _ _ tt (either _ _ _ tt tt))

-- data of an old epoch
fenced_proper : (u : Switches) (w : World) (n p : ℕ) (x : Item) → IsProperAnswer (fenced u w n p x)
fenced_proper u w n p x = elim u.no_fence as (λ t. IsProperAnswer (if◌then◌else◌ {A = Answer} t (appended w n p x, Done (length (log_at w p))) (w, Fenced))) [
  | true ↦ tt
  | false ↦ tt
]

delivered : (u : Switches) (c : Config) (w : World) (n : ℕ) (m : Option Message) → IsProperAnswer (deliver u c w n m)
delivered u c w n None = tt
delivered u c w n (Some (messages.Output a e p s x v)) =
    let o = fenced_proper u w n (written_index c a p) (Output a e s x v w.events) in
    either _ _ _ o (either _ _ _ tt (either _ _ _ tt (either _ _ _ o (either _ _ _ tt tt))))
delivered u c w n (Some (messages.Offset a e g q v)) =
    let o = fenced_proper u w n offsets_index (Offset a e q v w.events) in
    either _ _ _ tt (either _ _ _ tt (either _ _ _ o (either _ _ _ o (either _ _ _ tt tt))))
delivered u c w n (Some (messages.End a e k)) = either _ _ _ tt (either _ _ _ tt (either _ _ _ tt (either _ _ _ tt tt)))
delivered u c w n (Some (messages.Marker a m k p)) = either _ _ _ tt (either _ _ _ tt (either _ _ _ tt tt))

produced : (c : Config) (w : World) (n p : ℕ) (x : Option Claim) (s : Option Session) → IsProperAnswer (produce c w n p x s)
produced c w n p x None = tt
produced c w n p x (Some s) = either _ _ _ tt (either _ _ _ tt tt)

committed : (c : Config) (w : World) (n q : ℕ) (v : Option ℕ) (s : Option Session) → IsProperAnswer (commit_offset c w n q v s)
committed c w n q v None = tt
committed c w n q v (Some s) = either _ _ _ tt (either _ _ _ tt tt)

ended : (w : World) (n : ℕ) (k : Kind) (s : Option Session) → IsProperAnswer (end_session w n k s)
ended w n k None = tt
ended w n k (Some s) = either _ _ _ tt tt

resumes : (c : Config) (w : World) (n : ℕ) (s : Option Session) → IsProperAnswer (resume c w n s)
resumes c w n None = tt
resumes c w n (Some s) = resumed c w n s s.ending

fetched : (c : Config) (w : World) (q : ℕ) (s : Option Session) → IsProperAnswer (fetch c w q s)
fetched c w q None = tt
fetched c w q (Some s) = either _ _ _ tt (either _ _ _ tt (either _ _ _ tt tt))

written : (u : Switches) (c : Config) (w : World) (m : Option Message) → IsProperAnswer (write_marker u c w m)
written u c w None = tt
written u c w (Some (messages.Output a e p s x v)) = tt
written u c w (Some (messages.Offset a e g q v)) = tt
written u c w (Some (messages.End a e k)) = tt
written u c w (Some (messages.Marker a m k p)) = either _ _ _ tt (either _ _ _ tt tt)

completed : (u : Switches) (c : Config) (w : World) (a : ℕ) (t : Status) → IsProperAnswer (complete_prepared u c w a t)
completed u c w a Empty = tt
completed u c w a Ongoing = tt
completed u c w a (Prepare k) = either _ _ _ tt tt
completed u c w a (Complete k) = tt

added : (u : Switches) (c : Config) (w : World) (p : Option ℕ) (s : Option Session) → IsProperAnswer (add_partition u c w p s)
added u c w p None = tt
added u c w p (Some s) = either _ _ _ tt (either _ _ _ tt (either _ _ _ tt (either _ _ _ tt tt)))

started : (u : Switches) (c : Config) (w : World) (a e : ℕ) → IsProperAnswer (start_session u c w a e)
started u c w a e = either _ _ _ tt tt

elects : (w : World) (k : ℕ) (r : Option ℕ) → IsProperAnswer (elect w k r)
elects w k None = tt
elects w k (Some p) = either _ _ _ tt (either _ _ _ tt tt)

proper : (u : Switches) (c : Config) (w : World) (e : Event) → IsProper (happens_under u c w e).1
proper u c w (events.Feed p) = either _ _ _ tt tt
proper u c w (events.Start a) = either _ _ _ tt (either _ _ _ tt (either _ _ _ tt (started u c w a (if (coord_at w a).started then (coord_at w a).epoch + 1 else 0))))
proper u c w (events.Produce n p x) = produced c w n p x (slice_get w.sessions n)
proper u c w (events.Commit n q None) = committed c w n q None (slice_get w.sessions n)
proper u c w (events.Commit n q (Some (pos v))) = committed c w n q (Some v) (slice_get w.sessions n)
proper u c w (events.Commit n q (Some (negsuc v))) = tt
proper u c w (events.End n k) = ended w n k (slice_get w.sessions n)
proper u c w (events.Resume n) = resumes c w n (slice_get w.sessions n)
proper u c w (events.Fetch n q) = fetched c w q (slice_get w.sessions n)
proper u c w (events.Members g) = either _ _ _ tt tt
proper u c w (events.BrokerRestart t p) = either _ _ _ tt tt
proper u c w events.CoordinatorRestart = tt
proper u c w (events.Deliver n) = delivered u c w n (slice_get w.messages n)
proper u c w (events.TimeOut a) = either _ _ _ tt (either _ _ _ tt (delivered u c w 0 (Some (messages.End a (coord_at w a).epoch Abort))))
proper u c w (events.AddPartition n p) = added u c w p (slice_get w.sessions n)
proper u c w (events.WriteMarker n) = written u c w (slice_get w.messages n)
proper u c w (events.Complete a) = either _ _ _ tt (completed u c w a (coord_at w a).status)
proper u c w (events.Elect t p k) = elects w k (electable_at c t p)

pub proper_of : (u : Switches) (c : Config) (w v : World) (e : Event) (r : Reply) → (v, r) ≡ happens_under u c w e → IsProper r
proper_of u c w v e r h = subst IsProper (sym (ap (λ x. x.1) h)) (proper u c w e)
