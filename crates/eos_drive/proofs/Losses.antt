-- What an event loses under any switches: nothing, unless it elects a leader that lacks records.
use Rattle.std.proofs.Common.{◌≡◌, ℕ, ◌+◌, ℤ, pos, negsuc, ◌&&◌, Bool, true, false, List, [], ◌∷◌, ◌++◌, length, Option, Some, None, IfSome, option_map, if◌then◌else◌, refl, sym, ap, ◌∙◌, arith}
use Rattle.std.specs.Prelude.{slice_get}
use Rattle.std.specs.List.{All}
use Rattle.std.proofs.lemmas.Bool.{false≢true}
use Rattle.std.proofs.lemmas.List.Elements.{All-nil, All-cons, All-head, All-tail}
use Rattle.eos_batch.specs.declared.marker.Kind.{Kind}
use Rattle.eos_machine.specs.declared.config.Config.{Config}
use Rattle.eos_machine.specs.LogIndexes.{target_index, listed, written_index}
use Rattle.eos_machine.specs.declared.switches.Switches.{Switches}
use Rattle.eos_machine.specs.declared.event.Reply.{Reply}
use Rattle.eos_machine.specs.declared.event.Reply.TheVariants.{Done, Fenced, OutOfOrder, DuplicateKept, WrongState, Busy, StaleGeneration, EpochsSpent, Unknown, OutOfMemory, Full}
use Rattle.eos_machine.specs.declared.event.Event.{Event}
use Rattle.eos_machine.specs.declared.item.Claim.{Claim}
use Rattle.eos_machine.specs.declared.item.Item.{Item}
use Rattle.eos_machine.specs.declared.item.Item.TheVariants.{Output, Offset}
use Rattle.eos_machine.specs.declared.item.Status.{Status}
use Rattle.eos_machine.specs.declared.item.Status.TheVariants.{Empty, Ongoing, Prepare, Complete}
use Rattle.eos_machine.specs.declared.state.Election.{Election}
use Rattle.eos_machine.specs.declared.state.Message.{Message}
use Rattle.eos_machine.specs.declared.state.Session.{Session}
use Rattle.eos_machine.specs.World.{World, coord_at, log_at, with_item, written}
use Rattle.eos_machine.specs.declared.state.Message.TheVariants as messages
use Rattle.eos_machine.specs.declared.event.Event.TheVariants as events
use Rattle.eos_machine.specs.Rules.{marker_of}
use Rattle.eos_machine.specs.Tests.{is_ongoing, has, ongoing_partitions}
use Rattle.eos_machine.specs.Answers.{Answer, when}
use Rattle.eos_machine.specs.Sessions.{produce, commit_offset, commit, end_session, resume_ended, resume, fetch}
use Rattle.eos_machine.specs.Deliveries.{with_partition, appended, fenced, deliver_end, marked, deliver, write_marker, complete_prepared}
use Rattle.eos_machine.specs.Elections.{electable_at, election_of, elect, LosesNothing}
use Rattle.eos_machine.specs.Machine.{add_partition, happens_under, step_under}
use Rattle.eos_cluster.specs.Courses.{Course, IsTakenUnder, IsStepUnder}
use Rattle.eos_drive.specs.steps.Drives.{lost_by, lost_in, is_election}

-- ---- the elections stay

abbrev Same : World → World → Type 0
Same w v = v.elections ≡ w.elections

same_if : (w : World) (t : Bool) (x y : Answer) → Same w x.0 → Same w y.0 → Same w (when t x y).0
unfolding when
same_if w true x y f g = f
same_if w false x y f g = g

same_partition : (u : Switches) (c : Config) (w : World) (a p : ℕ) → Same w (with_partition u c w a p)
same_partition u c w a p =
    elim (is_ongoing (coord_at w a).status && has p (coord_at w a).partitions) as (λ t. Same w (if t then w else written u c w a (record { status = Ongoing; epoch = (coord_at w a).epoch; partitions = listed p (ongoing_partitions (coord_at w a).status (coord_at w a).partitions) }))) [
      | true ↦ refl
      | false ↦ refl
    ]

same_fenced : (u : Switches) (w : World) (n p : ℕ) (x : Item) → Same w (fenced u w n p x).0
same_fenced u w n p x = elim u.no_fence as (λ t. let y : Answer = if t then (appended w n p x, Done (length (log_at w p))) else (w, Fenced) in Same w y.0) [
  | true ↦ refl
  | false ↦ refl
]

same_marked : (u : Switches) (c : Config) (w : World) (a m : ℕ) (k : Kind) (p : ℕ) → Same w (marked u c w a m k p)
same_marked u c w a m k p = elim u.lose_marker as (λ t. Same w (if t then w else with_item w p (marker_of u c a m k p w.events))) [
  | true ↦ refl
  | false ↦ refl
]

same_end : (u : Switches) (c : Config) (w : World) (a e : ℕ) (k : Kind) → Same w (deliver_end u c w a e k).0
same_end u c w a e k = same_if w _ _ _ refl (same_if w _ _ _ refl (same_if w _ _ _ refl (same_if w _ _ _ refl refl)))

same_deliver : (u : Switches) (c : Config) (w : World) (m : ℕ) (r : Option Message) → Same w (deliver u c w m r).0
same_deliver u c w m None = refl
same_deliver u c w m (Some (messages.Output a e p s x v)) =
    let f = same_fenced u w m (written_index c a p) (Output a e s x v w.events) in
    same_if w _ _ _ f (same_if w _ _ _ refl (same_if w _ _ _ refl (same_if w _ _ _ f (same_if w _ _ _ refl (same_partition u c w a (written_index c a p))))))
same_deliver u c w m (Some (messages.Offset a e g q v)) =
    let f = same_fenced u w m 0 (Offset a e q v w.events) in
    same_if w _ _ _ refl (same_if w _ _ _ refl (same_if w _ _ _ f (same_if w _ _ _ f (same_if w _ _ _ refl (same_partition u c w a 0)))))
same_deliver u c w m (Some (messages.End a e k)) = same_end u c w a e k
same_deliver u c w m (Some (messages.Marker a e k p)) =
    let s = same_marked u c w a e k p in
    same_if w _ _ _ refl (same_if w _ _ _ s (same_if w _ _ _ s s))

same_writing : (u : Switches) (c : Config) (w : World) (r : Option Message) → Same w (write_marker u c w r).0
same_writing u c w None = refl
same_writing u c w (Some (messages.Output a e p s x v)) = refl
same_writing u c w (Some (messages.Offset a e g q v)) = refl
same_writing u c w (Some (messages.End a e k)) = refl
same_writing u c w (Some (messages.Marker a e k p)) =
    let s = same_marked u c w a e k p in
    same_if w _ _ _ refl (same_if w _ _ _ s s)

same_completed : (u : Switches) (c : Config) (w : World) (a : ℕ) (t : Status) → Same w (complete_prepared u c w a t).0
same_completed u c w a Empty = refl
same_completed u c w a Ongoing = refl
same_completed u c w a (Prepare k) = same_if w _ _ _ refl refl
same_completed u c w a (Complete k) = refl

same_produce : (c : Config) (w : World) (m p : ℕ) (x : Option Claim) (r : Option Session) → Same w (produce c w m p x r).0
same_produce c w m p x None = refl
same_produce c w m p x (Some s) = same_if w _ _ _ refl (same_if w _ _ _ refl refl)

same_offset : (c : Config) (w : World) (m q : ℕ) (v : Option ℕ) (r : Option Session) → Same w (commit_offset c w m q v r).0
same_offset c w m q v None = refl
same_offset c w m q v (Some s) = same_if w _ _ _ refl (same_if w _ _ _ refl refl)

same_commit : (c : Config) (w : World) (m q : ℕ) (v : Option ℤ) → Same w (commit c w m q v).0
same_commit c w m q None = same_offset c w m q None (slice_get w.sessions m)
same_commit c w m q (Some (pos v)) = same_offset c w m q (Some v) (slice_get w.sessions m)
same_commit c w m q (Some (negsuc v)) = refl

same_ending : (w : World) (m : ℕ) (k : Kind) (r : Option Session) → Same w (end_session w m k r).0
same_ending w m k None = refl
same_ending w m k (Some s) = same_if w _ _ _ refl refl

same_ended : (c : Config) (w : World) (m : ℕ) (s : Session) (k : Option Kind) → Same w (resume_ended c w m s k).0
same_ended c w m s None = refl
same_ended c w m s (Some k) = same_if w _ _ _ refl (same_if w _ _ _ refl (same_if w _ _ _ refl refl))

same_resume : (c : Config) (w : World) (m : ℕ) (r : Option Session) → Same w (resume c w m r).0
same_resume c w m None = refl
same_resume c w m (Some s) = same_ended c w m s s.ending

same_fetch : (c : Config) (w : World) (q : ℕ) (r : Option Session) → Same w (fetch c w q r).0
same_fetch c w q None = refl
same_fetch c w q (Some s) = same_if w _ _ _ refl (same_if w _ _ _ refl (same_if w _ _ _ refl refl))

same_added : (u : Switches) (c : Config) (w : World) (p : Option ℕ) (r : Option Session) → Same w (add_partition u c w p r).0
same_added u c w p None = refl
same_added u c w p (Some s) =
    same_if w _ _ _ refl (same_if w _ _ _ refl (same_if w _ _ _ refl (same_if w _ _ _ refl (same_partition u c w s.application (target_index c s.application p)))))

same_event : (u : Switches) (c : Config) (w : World) (e : Event) → is_election e ≡ false → Same w (happens_under u c w e).0
same_event u c w (events.Feed p) h = same_if w _ _ _ refl refl
same_event u c w (events.Start a) h = same_if w _ _ _ refl (same_if w _ _ _ refl (same_if w _ _ _ refl (same_if w _ _ _ refl refl)))
same_event u c w (events.Produce m p x) h = same_produce c w m p x (slice_get w.sessions m)
same_event u c w (events.Commit m q v) h = same_commit c w m q v
same_event u c w (events.End m k) h = same_ending w m k (slice_get w.sessions m)
same_event u c w (events.Resume m) h = same_resume c w m (slice_get w.sessions m)
same_event u c w (events.Fetch m q) h = same_fetch c w q (slice_get w.sessions m)
same_event u c w (events.Members g) h = same_if w _ _ _ refl refl
same_event u c w (events.BrokerRestart t p) h = same_if w _ _ _ refl refl
same_event u c w events.CoordinatorRestart h = refl
same_event u c w (events.Deliver m) h = same_deliver u c w m (slice_get w.messages m)
same_event u c w (events.TimeOut a) h = same_if w _ _ _ refl (same_if w _ _ _ refl (same_end u c w a _ _))
same_event u c w (events.AddPartition m p) h = same_added u c w p (slice_get w.sessions m)
same_event u c w (events.WriteMarker m) h = same_writing u c w (slice_get w.messages m)
same_event u c w (events.Complete a) h = same_if w _ _ _ refl (same_completed u c w a (coord_at w a).status)
same_event u c w (events.Elect t p k) h = absurd (false≢true (sym h))

-- ---- what is lost stays as much

abbrev Loses : World → World → Type 0
Loses w v = lost_in v ≡ lost_in w

loses_if : (w : World) (t : Bool) (x y : Answer) → Loses w x.0 → Loses w y.0 → Loses w (when t x y).0
unfolding when
loses_if w true x y f g = f
loses_if w false x y f g = g

-- an election more
lost_more : (xs : List Election) (x : Election) → x.lost ≡ 0 → lost_by (xs ++ x ∷ []) ≡ lost_by xs
lost_more [] x h = ap (λ (n : ℕ). n + 0) h
lost_more (y ∷ xs) x h = ap (λ (n : ℕ). y.lost + n) (lost_more xs x h)

none_by : (w : World) (k : ℕ) (r : Option ℕ) → IfSome r (λ p. k ≡ length (log_at w p)) → Loses w (elect w k r).0
none_by w k None h = refl
none_by w k (Some p) h =
    let none : (election_of w p k).lost ≡ 0 = omega (arith, h) in
    loses_if w _ _ _ refl (loses_if w _ _ _ refl (lost_more w.elections (election_of w p k) none))

-- as many as are counted there
pub counted : (w : World) (r : Option ℕ) (n : ℕ) → option_map (λ (p : ℕ). length (log_at w p)) r ≡ Some n → IfSome r (λ p. n ≡ length (log_at w p))
counted w None n h = cc
counted w (Some p) n h = cc

pub not_there : (w : World) (r : Option ℕ) (n : ℕ) → option_map (λ (p : ℕ). length (log_at w p)) r ≡ None → IfSome r (λ p. n ≡ length (log_at w p))
not_there w None n h = tt
not_there w (Some p) n h = cc

of_step : (u : Switches) (c : Config) (w : World) (e : Event) → Loses w (happens_under u c w e).0 → Loses w (step_under u c w e).0
of_step u c w e h = loses_if w _ _ _ refl h

of_taken : (s t : Course) (e : Event) (r : Reply) → Loses s.world (happens_under s.switches s.config s.world e).0 → IsTakenUnder s e r t → Loses s.world t.world
of_taken s t e r h k = ap (λ (x : Answer). lost_in x.0) k.1 ∙ of_step s.switches s.config s.world e h

of_course : (s t : Course) → t ≡ s → Loses s.world t.world
of_course s t h = ap (λ (x : Course). lost_in x.world) h

of_answer : (s t : Course) (e : Event) (r : Reply) → Loses s.world (happens_under s.switches s.config s.world e).0 → IsStepUnder s e r t → Loses s.world t.world
of_answer s t e (Done n) h k = of_taken s t e (Done n) h k
of_answer s t e Fenced h k = of_taken s t e Fenced h k
of_answer s t e OutOfOrder h k = of_taken s t e OutOfOrder h k
of_answer s t e DuplicateKept h k = of_taken s t e DuplicateKept h k
of_answer s t e WrongState h k = of_taken s t e WrongState h k
of_answer s t e Busy h k = of_taken s t e Busy h k
of_answer s t e StaleGeneration h k = of_taken s t e StaleGeneration h k
of_answer s t e EpochsSpent h k = of_taken s t e EpochsSpent h k
of_answer s t e Unknown h k = of_taken s t e Unknown h k
of_answer s t e OutOfMemory h k = of_course s t k
of_answer s t e Full h k = of_taken s t e Full h k

-- an event that elects no leader
pub none_lost : (s t : Course) (e : Event) (r : Reply) → is_election e ≡ false → IsStepUnder s e r t → lost_in t.world ≡ lost_in s.world
none_lost s t e r h k = of_answer s t e r (ap lost_by (same_event s.switches s.config s.world e h)) k

-- one that elects a leader with all records of its log
pub none_lost_by : (s t : Course) (topic : List ℕ) (partition kept : ℕ) (r : Reply) → IfSome (electable_at s.config topic partition) (λ p. kept ≡ length (log_at s.world p)) → IsStepUnder s (events.Elect topic partition kept) r t
    → lost_in t.world ≡ lost_in s.world
none_lost_by s t topic partition kept r h k = of_answer s t (events.Elect topic partition kept) r (none_by s.world kept (electable_at s.config topic partition) h) k

-- ---- nothing is

all_lost : (xs : List Election) → All (λ x. x.lost ≡ 0) xs → lost_by xs ≡ 0
all_lost [] h = refl
all_lost (x ∷ xs) h =
    let p = All-head (λ y. y.lost ≡ 0) x xs h in
    let q = all_lost xs (All-tail (λ y. y.lost ≡ 0) x xs h) in
    omega (arith, p, q)

each_lost : (xs : List Election) → lost_by xs ≡ 0 → All (λ x. x.lost ≡ 0) xs
each_lost [] h = All-nil (λ x. x.lost ≡ 0)
each_lost (x ∷ xs) h = All-cons (λ y. y.lost ≡ 0) x xs (omega (arith, h)) (each_lost xs (omega (arith, h)))

pub lossless_on : (w v : World) → lost_in v ≡ lost_in w → LosesNothing w → LosesNothing v
lossless_on w v h k = each_lost v.elections (h ∙ all_lost w.elections k)
