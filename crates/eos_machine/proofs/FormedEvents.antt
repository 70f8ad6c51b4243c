-- Each event, under any switches, keeps what a cluster's messages and sessions name.
use Rattle.std.proofs.Common.{◌≡◌, ℕ, ℤ, pos, negsuc, zero, suc, ◌+◌, ◌<◌, ◌&&◌, not, Bool, true, false, List, [], ◌∷◌, length, Option, Some, None, refl, arith, ◌∙◌, if◌then◌else◌}
use Rattle.std.specs.Prelude.{nat_lt, slice_get, ⊤}
use Rattle.std.specs.List.{All, flat_map, range_with_len}
use Rattle.std.proofs.lemmas.List.{length-map, length-set, length-replicate}
use Rattle.std.proofs.lemmas.List.FromFn.{length-range_with_len}
use Rattle.std.proofs.lemmas.List.Elements.{All-nil, All-cons, All-head, All-tail, All-push, All-append, All-set}
use Rattle.std.proofs.lemmas.Bool.{or_parts}
use Rattle.eos_batch.specs.declared.marker.Kind.{Kind}
use Rattle.eos_batch.specs.declared.marker.Kind.TheVariants.{Abort}
use Rattle.eos_machine.specs.declared.switches.Switches.{Switches}
use Rattle.eos_machine.specs.LogIndexes.{Config, application_count, group_count, txn_index, input_index, written_index, target_index, listed}
use Rattle.eos_machine.specs.World.{Claim, Status, Empty, Ongoing, Prepare, Complete, Entry, Item, Fed, State, Output, Offset, Coordinator, Session, Message, World, Event, fresh, opening, log_at, coord_at, generation_at, generation_of, with_item, with_coord, said_entry, state_of, written, due_markers, prepared, finished}
use Rattle.eos_machine.specs.declared.state.Message.TheVariants as messages
use Rattle.eos_machine.specs.declared.event.Event.TheVariants as events
use Rattle.eos_machine.specs.Rules.{marker_of}
use Rattle.eos_machine.specs.Tests.{is_ongoing, has, ongoing_partitions}
use Rattle.eos_machine.specs.Answers.{Answer, when, Done, Fenced}
use Rattle.eos_machine.specs.Sessions.{claimed_topic, new_session, sequence_of, after_output, after_offset, after_end, after_resume, sent, produce, commit_offset, commit, end_session, resume_ended, resume, fetch}
use Rattle.eos_machine.specs.Deliveries.{with_partition, appended, accept, fenced, marked, ticked_off, ticked, deliver, write_marker, complete_prepared}
use Rattle.eos_machine.specs.Elections.{electable_at, elect}
use Rattle.eos_machine.specs.Machine.{start_session, start, reread, due_again, queued_again, happens_under, add_partition, counted, step_under, world_under}
use Rattle.eos_machine.specs.Formed.{Names, IsOfOne, IsFormed}
use Rattle.eos_machine.proofs.Brokers.{is_lt}

formed_if : (c : Config) (t : Bool) (x y : Answer) → IsFormed c x.0 → (t ≡ false → IsFormed c y.0) → IsFormed c (when t x y).0
unfolding when
formed_if c true x y f g = f
formed_if c false x y f g = g refl

not_false : (b : Bool) → not b ≡ false → b ≡ true
not_false true h = refl
not_false false h = absurd cc

-- ---- changes

formed_item : (c : Config) (w : World) (p : ℕ) (x : Item) → IsFormed c w → IsFormed c (with_item w p x)
formed_item c w p x f = record { coordinators = f.coordinators; messages = f.messages; sessions = f.sessions; generations = f.generations }

formed_coord : (c : Config) (w : World) (a : ℕ) (s : Coordinator) → IsFormed c w → IsFormed c (with_coord w a s)
formed_coord c w a s f = record { coordinators = length-set w.coordinators a s ∙ f.coordinators; messages = f.messages; sessions = f.sessions; generations = f.generations }

formed_written : (u : Switches) (c : Config) (w : World) (a : ℕ) (x : Entry) → IsFormed c w → IsFormed c (written u c w a x)
formed_written u c w a x f = formed_coord c (with_item w (txn_index c a) (State a (said_entry u c x) w.events)) a (state_of x) (formed_item c w (txn_index c a) (State a (said_entry u c x) w.events) f)

markers_named : (c : Config) (a e : ℕ) (k : Kind) (ps : List ℕ) → a < application_count c → All (Names c) (due_markers a e k ps)
markers_named c a e k [] l = All-nil (Names c)
markers_named c a e k (p ∷ ps) l = All-cons (Names c) (messages.Marker a e k p) (due_markers a e k ps) l (markers_named c a e k ps l)

formed_prepared : (u : Switches) (c : Config) (w : World) (a : ℕ) (k : Kind) (ps : List ℕ) → a < application_count c → IsFormed c w → IsFormed c (prepared u c w a k ps)
formed_prepared u c w a k ps l f =
    let e : ℕ = (coord_at w a).epoch + 1 in
    let v = formed_written u c w a (record { status = Prepare k; epoch = e; partitions = ps }) f in
    record { coordinators = v.coordinators; messages = All-append (Names c) w.messages (due_markers a e k ps) f.messages (markers_named c a e k ps l); sessions = f.sessions; generations = f.generations }

formed_finished : (u : Switches) (c : Config) (w : World) (a : ℕ) (k : Kind) → IsFormed c w → IsFormed c (finished u c w a k)
formed_finished u c w a k f = formed_written u c w a (record { status = Complete k; epoch = (coord_at w a).epoch; partitions = [] }) f

formed_partition : (u : Switches) (c : Config) (w : World) (a p : ℕ) → IsFormed c w → IsFormed c (with_partition u c w a p)
formed_partition u c w a p f =
    let x : Entry = record { status = Ongoing; epoch = (coord_at w a).epoch; partitions = listed p (ongoing_partitions (coord_at w a).status (coord_at w a).partitions) } in
    elim (is_ongoing (coord_at w a).status && has p (coord_at w a).partitions) as (λ t. IsFormed c (if t then w else written u c w a x)) [
      | true ↦ f
      | false ↦ formed_written u c w a x f
    ]

formed_appended : (c : Config) (w : World) (n p : ℕ) (x : Item) → IsFormed c w → IsFormed c (appended w n p x)
formed_appended c w n p x f = record { coordinators = f.coordinators; messages = f.messages; sessions = f.sessions; generations = f.generations }

formed_accept : (u : Switches) (c : Config) (w : World) (n a p : ℕ) (x : Item) → IsFormed c w → IsFormed c (accept u c w n a p x)
formed_accept u c w n a p x f = formed_appended c (with_partition u c w a p) n p x (formed_partition u c w a p f)

formed_fenced : (u : Switches) (c : Config) (w : World) (n p : ℕ) (x : Item) → IsFormed c w → IsFormed c (fenced u w n p x).0
formed_fenced u c w n p x f = elim u.no_fence as (λ t. IsFormed c (if◌then◌else◌ {A = Answer} t (appended w n p x, Done (length (log_at w p))) (w, Fenced)).0) [
  | true ↦ formed_appended c w n p x f
  | false ↦ f
]

formed_marked : (u : Switches) (c : Config) (w : World) (a m : ℕ) (k : Kind) (p : ℕ) → IsFormed c w → IsFormed c (marked u c w a m k p)
formed_marked u c w a m k p f = elim u.lose_marker as (λ t. IsFormed c (if t then w else with_item w p (marker_of u c a m k p w.events))) [
  | true ↦ f
  | false ↦ formed_item c w p (marker_of u c a m k p w.events) f
]

formed_ticked : (u : Switches) (c : Config) (w : World) (a m : ℕ) (k : Kind) (p : ℕ) → IsFormed c w → IsFormed c (ticked u c w a m k p)
formed_ticked u c w a m k p f = formed_coord c (marked u c w a m k p) a (ticked_off (coord_at w a) p) (formed_marked u c w a m k p f)

-- ---- messages

abbrev pub NamesIf : Config → Option Message → Type 0
NamesIf c None = ⊤
NamesIf c (Some x) = Names c x

pub message_at : (c : Config) (ms : List Message) (n : ℕ) → All (Names c) ms → NamesIf c (slice_get ms n)
message_at c [] n h = tt
message_at c (x ∷ ms) zero h = All-head (Names c) x ms h
message_at c (x ∷ ms) (suc n) h = message_at c ms n (All-tail (Names c) x ms h)

formed_deliver : (u : Switches) (c : Config) (w : World) (n : ℕ) (r : Option Message) → IsFormed c w → NamesIf c r → IsFormed c (deliver u c w n r).0
formed_deliver u c w n None f h = f
formed_deliver u c w n (Some (messages.Output a e p s x v)) f h =
    let o = formed_fenced u c w n (written_index c a p) (Output a e s x v w.events) f in
    formed_if c _ _ _ o (λ f1. formed_if c _ _ _ f (λ f2. formed_if c _ _ _ f (λ f3. formed_if c _ _ _ o (λ f4. formed_if c _ _ _ f (λ f5.
    formed_accept u c w n a (written_index c a p) (Output a e s x v w.events) f)))))
formed_deliver u c w n (Some (messages.Offset a e g q v)) f h =
    let o = formed_fenced u c w n 0 (Offset a e q v w.events) f in
    formed_if c _ _ _ f (λ f1. formed_if c _ _ _ f (λ f2. formed_if c _ _ _ o (λ f3. formed_if c _ _ _ o (λ f4. formed_if c _ _ _ f (λ f5.
    formed_accept u c w n a 0 (Offset a e q v w.events) f)))))
formed_deliver u c w n (Some (messages.End a e k)) f h =
    formed_if c _ _ _ f (λ f1. formed_if c _ _ _ f (λ f2. formed_if c _ _ _ f (λ f3. formed_if c _ _ _
    (formed_finished u c (prepared u c w a k []) a k (formed_prepared u c w a k [] h f))
    (λ f4. formed_prepared u c w a k (ongoing_partitions (coord_at w a).status (coord_at w a).partitions) h f))))
formed_deliver u c w n (Some (messages.Marker a m k p)) f h =
    let s = formed_ticked u c w a m k p f in
    formed_if c _ _ _ f (λ f1. formed_if c _ _ _ (formed_marked u c w a m k p f) (λ f2. formed_if c _ _ _ (formed_finished u c (ticked u c w a m k p) a k s) (λ f3. s)))

formed_writing : (u : Switches) (c : Config) (w : World) (r : Option Message) → IsFormed c w → IsFormed c (write_marker u c w r).0
formed_writing u c w None f = f
formed_writing u c w (Some (messages.Output a e p s x v)) f = f
formed_writing u c w (Some (messages.Offset a e g q v)) f = f
formed_writing u c w (Some (messages.End a e k)) f = f
formed_writing u c w (Some (messages.Marker a m k p)) f =
    formed_if c _ _ _ f (λ f1. formed_if c _ _ _ (formed_marked u c w a m k p f) (λ f2. formed_ticked u c w a m k p f))

formed_completed : (u : Switches) (c : Config) (w : World) (a : ℕ) (t : Status) → IsFormed c w → IsFormed c (complete_prepared u c w a t).0
formed_completed u c w a Empty f = f
formed_completed u c w a Ongoing f = f
formed_completed u c w a (Prepare k) f = formed_if c _ _ _ f (λ f1. formed_finished u c w a k f)
formed_completed u c w a (Complete k) f = f

-- ---- sessions

abbrev pub OneIf : Config → Option Session → Type 0
OneIf c None = ⊤
OneIf c (Some s) = IsOfOne c s

pub session_at : (c : Config) (ss : List Session) (n : ℕ) → All (IsOfOne c) ss → OneIf c (slice_get ss n)
session_at c [] n h = tt
session_at c (x ∷ ss) zero h = All-head (IsOfOne c) x ss h
session_at c (x ∷ ss) (suc n) h = session_at c ss n (All-tail (IsOfOne c) x ss h)

formed_sent : (c : Config) (w : World) (n : ℕ) (s : Session) (x : Message) → IsFormed c w → IsOfOne c s → Names c x → IsFormed c (sent w n s x)
formed_sent c w n s x f o h = record {
  coordinators = f.coordinators;
  messages = All-push (Names c) w.messages x f.messages h;
  sessions = All-set (IsOfOne c) w.sessions n s o f.sessions;
  generations = f.generations;
}

formed_produce : (c : Config) (w : World) (n p : ℕ) (x : Option Claim) (r : Option Session) → IsFormed c w → OneIf c r → IsFormed c (produce c w n p x r).0
formed_produce c w n p x None f o = f
formed_produce c w n p x (Some s) f o =
    formed_if c _ _ _ f (λ f1.
    let l : p < c.outputs = is_lt p c.outputs (not_false _ (or_parts (not (nat_lt p c.outputs)) (nat_lt 249 (length (claimed_topic x))) f1).0) in
    formed_if c _ _ _ f (λ f2. formed_sent c w n (after_output s p (length w.messages)) (messages.Output s.application s.epoch p (sequence_of s p) x w.events) f o (o, l)))

formed_offset : (c : Config) (w : World) (n q : ℕ) (v : Option ℕ) (r : Option Session) → IsFormed c w → OneIf c r → IsFormed c (commit_offset c w n q v r).0
formed_offset c w n q v None f o = f
formed_offset c w n q v (Some s) f o = formed_if c _ _ _ f (λ f1. formed_if c _ _ _ f (λ f2. formed_sent c w n (after_offset s (length w.messages)) (messages.Offset s.application s.epoch s.generation q v) f o o))

formed_commit : (c : Config) (w : World) (n q : ℕ) (v : Option ℤ) → IsFormed c w → IsFormed c (commit c w n q v).0
formed_commit c w n q None f = formed_offset c w n q None (slice_get w.sessions n) f (session_at c w.sessions n f.sessions)
formed_commit c w n q (Some (pos v)) f = formed_offset c w n q (Some v) (slice_get w.sessions n) f (session_at c w.sessions n f.sessions)
formed_commit c w n q (Some (negsuc v)) f = f

formed_end : (c : Config) (w : World) (n : ℕ) (k : Kind) (r : Option Session) → IsFormed c w → OneIf c r → IsFormed c (end_session w n k r).0
formed_end c w n k None f o = f
formed_end c w n k (Some s) f o = formed_if c _ _ _ f (λ f1. formed_sent c w n (after_end s k) (messages.End s.application s.epoch k) f o o)

formed_ended : (c : Config) (w : World) (n : ℕ) (s : Session) (r : Option Kind) → IsFormed c w → IsOfOne c s → IsFormed c (resume_ended c w n s r).0
formed_ended c w n s None f o = f
formed_ended c w n s (Some k) f o = formed_if c _ _ _ f (λ f1. formed_if c _ _ _ f (λ f2. formed_if c _ _ _ f (λ f3.
    record { coordinators = f.coordinators; messages = f.messages; sessions = All-set (IsOfOne c) w.sessions n (after_resume c s) o f.sessions; generations = f.generations })))

formed_resume : (c : Config) (w : World) (n : ℕ) (r : Option Session) → IsFormed c w → OneIf c r → IsFormed c (resume c w n r).0
formed_resume c w n None f o = f
formed_resume c w n (Some s) f o = formed_ended c w n s s.ending f o

formed_fetch : (c : Config) (w : World) (q : ℕ) (r : Option Session) → IsFormed c w → IsFormed c (fetch c w q r).0
formed_fetch c w q None f = f
formed_fetch c w q (Some s) f = formed_if c _ _ _ f (λ f1. formed_if c _ _ _ f (λ f2. formed_if c _ _ _ f (λ f3. f)))

formed_session : (u : Switches) (c : Config) (w : World) (a e : ℕ) → a < application_count c → IsFormed c w → IsFormed c (start_session u c w a e).0
formed_session u c w a e l f = formed_if c _ _ _ f (λ f1.
    let v = formed_written u c w a (record { status = Empty; epoch = e; partitions = [] }) f in
    record { coordinators = v.coordinators; messages = f.messages; sessions = All-push (IsOfOne c) w.sessions (new_session c a e (generation_of c w a)) f.sessions l; generations = f.generations })

formed_start : (u : Switches) (c : Config) (w : World) (a : ℕ) → IsFormed c w → IsFormed c (start u c w a).0
formed_start u c w a f = formed_if c _ _ _ f (λ f1.
    let l : a < application_count c = is_lt a (application_count c) (not_false _ f1) in
    formed_if c _ _ _ f (λ f2. formed_if c _ _ _ (formed_prepared u c w a Abort (coord_at w a).partitions l f) (λ f3.
    formed_session u c w a (if (coord_at w a).started then (coord_at w a).epoch + 1 else 0) l f)))

formed_added : (u : Switches) (c : Config) (w : World) (p : Option ℕ) (r : Option Session) → IsFormed c w → IsFormed c (add_partition u c w p r).0
formed_added u c w p None f = f
formed_added u c w p (Some s) f =
    formed_if c _ _ _ f (λ f1. formed_if c _ _ _ f (λ f2. formed_if c _ _ _ f (λ f3. formed_if c _ _ _ f (λ f4.
    formed_partition u c w s.application (target_index c s.application p) f))))

-- ---- the coordinator restarts

due_named : (c : Config) (a : ℕ) (t : Status) (e : ℕ) (ps : List ℕ) → a < application_count c → All (Names c) (due_again t a e ps)
due_named c a Empty e ps l = All-nil (Names c)
due_named c a Ongoing e ps l = All-nil (Names c)
due_named c a (Complete k) e ps l = All-nil (Names c)
due_named c a (Prepare k) e ps l = markers_named c a e k ps l

all_flat : (P : Message → Type 0) (f : ℕ → List Message) (m n : ℕ) → ((x : ℕ) → x < m + n → All P (f x)) → All P (flat_map f (range_with_len m n))
all_flat P f m zero h = All-nil P
all_flat P f m (suc n) h = All-append P (f m) (flat_map f (range_with_len (m + 1) n)) (h m (omega arith)) (all_flat P f (m + 1) n (λ x l. h x (omega (arith, l))))

formed_elected : (c : Config) (w : World) (k : ℕ) (r : Option ℕ) → IsFormed c w → IsFormed c (elect w k r).0
formed_elected c w k None f = f
formed_elected c w k (Some p) f =
    formed_if c _ _ _ f (λ f1. formed_if c _ _ _ f (λ f2. record { coordinators = f.coordinators; messages = f.messages; sessions = f.sessions; generations = f.generations }))

-- ---- any event, and any list

pub formed_event : (u : Switches) (c : Config) (w : World) (e : Event) → IsFormed c w → IsFormed c (happens_under u c w e).0
formed_event u c w (events.Feed p) f = formed_if c _ _ _ f (λ f1. formed_item c w (input_index c p) (Fed w.events) f)
formed_event u c w (events.Start a) f = formed_start u c w a f
formed_event u c w (events.Produce n p x) f = formed_produce c w n p x (slice_get w.sessions n) f (session_at c w.sessions n f.sessions)
formed_event u c w (events.Commit n q v) f = formed_commit c w n q v f
formed_event u c w (events.End n k) f = formed_end c w n k (slice_get w.sessions n) f (session_at c w.sessions n f.sessions)
formed_event u c w (events.Resume n) f = formed_resume c w n (slice_get w.sessions n) f (session_at c w.sessions n f.sessions)
formed_event u c w (events.Fetch n q) f = formed_fetch c w q (slice_get w.sessions n) f
formed_event u c w (events.Members g) f = formed_if c _ _ _ f (λ f1. record { coordinators = f.coordinators; messages = f.messages; sessions = f.sessions; generations = length-set w.generations g (generation_at w g + 1) ∙ f.generations })
formed_event u c w (events.BrokerRestart t p) f = formed_if c _ _ _ f (λ f1. f)
formed_event u c w events.CoordinatorRestart f = record {
  coordinators = length-map (range_with_len 0 (length w.coordinators)) (reread c w) ∙ (length-range_with_len 0 (length w.coordinators) ∙ f.coordinators);
  messages = All-append (Names c) w.messages (flat_map (queued_again c w) (range_with_len 0 (length w.coordinators))) f.messages
      (all_flat (Names c) (queued_again c w) 0 (length w.coordinators) (λ a l. due_named c a (reread c w a).status (reread c w a).epoch (reread c w a).partitions (omega (arith, l, f.coordinators))));
  sessions = f.sessions;
  generations = f.generations;
}
formed_event u c w (events.Deliver n) f = formed_deliver u c w n (slice_get w.messages n) f (message_at c w.messages n f.messages)
formed_event u c w (events.TimeOut a) f = formed_if c _ _ _ f (λ f1.
    let l : a < application_count c = is_lt a (application_count c) (not_false _ f1) in
    formed_if c _ _ _ f (λ f2. formed_deliver u c w 0 (Some (messages.End a (coord_at w a).epoch Abort)) f l))
formed_event u c w (events.AddPartition n p) f = formed_added u c w p (slice_get w.sessions n) f
formed_event u c w (events.WriteMarker n) f = formed_writing u c w (slice_get w.messages n) f
formed_event u c w (events.Complete a) f = formed_if c _ _ _ f (λ f1. formed_completed u c w a (coord_at w a).status f)
formed_event u c w (events.Elect t p k) f = formed_elected c w k (electable_at c t p) f

formed_counted : (c : Config) (n : ℕ) (x : Answer) → IsFormed c x.0 → IsFormed c (counted n x).0
formed_counted c n x f = record { coordinators = f.coordinators; messages = f.messages; sessions = f.sessions; generations = f.generations }

formed_step : (u : Switches) (c : Config) (w : World) (e : Event) → IsFormed c w → IsFormed c (step_under u c w e).0
formed_step u c w e f = formed_if c _ _ _ f (λ h. formed_counted c w.events (happens_under u c w e) (formed_event u c w e f))

pub formed_opening : (c : Config) → IsFormed c (opening c)
formed_opening c = record { coordinators = length-replicate (application_count c) fresh; messages = All-nil (Names c); sessions = All-nil (IsOfOne c); generations = length-replicate (group_count c) 0 }

pub formed_run : (c : Config) (w : World) (xs : List (Switches × Event)) → IsFormed c w → IsFormed c (world_under c w xs)
formed_run c w [] f = f
formed_run c w (x ∷ xs) f = formed_run c (step_under x.0 c w x.1).0 xs (formed_step x.0 c w x.1 f)
