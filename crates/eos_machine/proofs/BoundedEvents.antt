-- Each event keeps the numbers of a cluster within their bounds.
use Rattle.std.proofs.Common.{◌≡◌, ℕ, ℤ, pos, negsuc, zero, suc, ◌+◌, ◌-◌, ◌^◌, ◌≤◌, ◌<◌, ◌==◌, ◌&&◌, not, Bool, true, false, List, [], ◌∷◌, ◌++◌, length, map, replicate, Option, Some, None, refl, arith, slice_index_or, slice_set, take, if◌then◌else◌}
use Rattle.std.specs.Prelude.{slice_get, nat_lt, ⊤}
use Rattle.std.specs.List.{All, flat_map, range_with_len, cons_option}
use Rattle.std.proofs.lemmas.List.Elements.{All-nil, All-cons, All-head, All-tail, All-weaker, All-push, All-append, All-set, All-take}
use Rattle.std.proofs.lemmas.Bool.{and_parts, or_parts, eqb-true}
use Rattle.eos_batch.specs.declared.marker.Kind.{Kind}
use Rattle.eos_batch.specs.declared.marker.Kind.TheVariants.{Abort}
use Rattle.eos_machine.specs.LogIndexes.{Config, application_count, group_count, txn_index, input_index, written_index, target_index, log_count, listed}
use Rattle.eos_machine.specs.declared.switches.Switches.{Switches}
use Rattle.eos_machine.specs.Switching.{none}
use Rattle.eos_machine.specs.World.{Claim, Status, Empty, Ongoing, Prepare, Complete, Entry, Item, Fed, State, Output, Offset, Marker, Coordinator, Session, Message, World, Event, fresh, opening, log_at, coord_at, generation_at, generation_of, with_item, with_coord, said_entry, written, due_markers, prepared, finished, state_of}
use Rattle.eos_machine.specs.declared.state.Message.TheVariants as messages
use Rattle.eos_machine.specs.declared.event.Event.TheVariants as events
use Rattle.eos_machine.specs.Logs.{entries_of, last_state}
use Rattle.eos_machine.specs.Tests.{is_ongoing, is_prepare, has, is_current, ongoing_partitions}
use Rattle.eos_machine.specs.Answers.{Answer, when, Done, Fenced}
use Rattle.eos_machine.specs.Sessions.{last_epoch, new_session, sequence_of, after_output, after_offset, after_end, after_resume, produce, commit_offset, commit, end_session, resume_ended, resume, fetch}
use Rattle.eos_machine.specs.Rules.{marker_epoch, marker_of}
use Rattle.eos_machine.specs.Deliveries.{with_partition, appended, accept, fenced, marked, ticked_off, ticked, deliver, write_marker, complete_prepared}
use Rattle.eos_machine.specs.Elections.{electable_at, elect, epoch_at, election_of}
use Rattle.eos_machine.specs.Machine.{start_session, start, reread, due_again, queued_again, happens_under, add_partition, counted, step_under, step, world_under, world_after}
use Rattle.eos_machine.specs.Bounds.{Limit, IsWithin, IsSent, IsSafe, Bounded}
use Rattle.eos_machine.proofs.Brokers.{not_lt, is_lt}

-- ---- one event more

item_more : (n : ℕ) (x : Item) → IsWithin n x → IsWithin (n + 1) x
item_more n (Fed m) h = tt
item_more n (State a x m) h = h
item_more n (Output a e s x v m) h = (h.0, omega (arith, h.1))
item_more n (Offset a e q v m) h = h
item_more n (Marker a e k m) h = h

message_more : (n : ℕ) (x : Message) → IsSent n x → IsSent (n + 1) x
message_more n (messages.Output a e p s x v) h = (h.0, omega (arith, h.1))
message_more n (messages.Offset a e g q v) h = h
message_more n (messages.End a e k) h = h
message_more n (messages.Marker a e k p) h = h

sequences_more : (n : ℕ) (qs : List ℕ) → All (λ q. q ≤ n) qs → All (λ q. q ≤ n + 1) qs
sequences_more n qs h = All-weaker (λ q. q ≤ n) (λ q. q ≤ n + 1) (λ q l. omega (arith, l)) qs h

session_more : (n : ℕ) (s : Session) → IsSafe n s → IsSafe (n + 1) s
session_more n s h = (h.0, sequences_more n s.sequences h.1)

pub bounded_more : (n : ℕ) (w : World) → Bounded n w → Bounded (n + 1) w
bounded_more n w b = record {
  coordinators = b.coordinators;
  logs = All-weaker (All (IsWithin n)) (All (IsWithin (n + 1))) (λ xs h. All-weaker (IsWithin n) (IsWithin (n + 1)) (item_more n) xs h) w.logs b.logs;
  messages = All-weaker (IsSent n) (IsSent (n + 1)) (message_more n) w.messages b.messages;
  sessions = All-weaker (IsSafe n) (IsSafe (n + 1)) (session_more n) w.sessions b.sessions;
  generations = sequences_more n w.generations b.generations;
  elections = b.elections;
}

-- ---- parts

all_at : {X : Type 0} (P : X → Type 0) (xs : List X) (i : ℕ) (d : X) → P d → All P xs → P (slice_index_or xs i d)
all_at P [] i d p h = p
all_at P (x ∷ xs) zero d p h = All-head P x xs h
all_at P (x ∷ xs) (suc i) d p h = all_at P xs i d p (All-tail P x xs h)

log_within : (n : ℕ) (w : World) (p : ℕ) → Bounded n w → All (IsWithin n) (log_at w p)
log_within n w p b = all_at (All (IsWithin n)) w.logs p [] (All-nil (IsWithin n)) b.logs

pub coord_within : (n : ℕ) (w : World) (a : ℕ) → Bounded n w → Limit (coord_at w a).status (coord_at w a).epoch
coord_within n w a b = all_at (λ s. Limit s.status s.epoch) w.coordinators a fresh (omega arith) b.coordinators

pub generation_within : (n : ℕ) (w : World) (g : ℕ) → Bounded n w → generation_at w g ≤ n
generation_within n w g b = all_at (λ k. k ≤ n) w.generations g 0 (omega arith) b.generations

limit_top : (t : Status) (e : ℕ) → Limit t e → e ≤ last_epoch + 1
limit_top Empty e h = omega (arith, h)
limit_top Ongoing e h = omega (arith, h)
limit_top (Prepare k) e h = h
limit_top (Complete k) e h = h

pub epoch_top : (n : ℕ) (w : World) (a : ℕ) → Bounded n w → (coord_at w a).epoch ≤ 32767
epoch_top n w a b = limit_top (coord_at w a).status (coord_at w a).epoch (coord_within n w a b)

limit_ongoing : (t : Status) (e : ℕ) → is_ongoing t ≡ true → Limit t e → e ≤ last_epoch
limit_ongoing Empty e t h = h
limit_ongoing Ongoing e t h = h
limit_ongoing (Prepare k) e t h = absurd cc
limit_ongoing (Complete k) e t h = absurd cc

-- one of the message's epoch
current_low : (s : Coordinator) (e : ℕ) → is_current s e ≡ true → e ≤ last_epoch → s.epoch ≤ last_epoch
current_low s e t h = let q = eqb-true s.epoch e (and_parts s.started (s.epoch == e) t).1 in omega (arith, q, h)

not_false : (b : Bool) → not b ≡ false → b ≡ true
not_false true h = refl
not_false false h = absurd cc

-- ---- changes

bounded_if : (n : ℕ) (t : Bool) (x y : Answer) → (t ≡ true → Bounded n x.0) → (t ≡ false → Bounded n y.0) → Bounded n (when t x y).0
unfolding when
bounded_if n true x y f g = f refl
bounded_if n false x y f g = g refl

bounded_item : (n : ℕ) (w : World) (p : ℕ) (x : Item) → Bounded n w → IsWithin n x → Bounded n (with_item w p x)
bounded_item n w p x b h = record {
  coordinators = b.coordinators;
  logs = All-set (All (IsWithin n)) w.logs p (log_at w p ++ x ∷ []) (All-push (IsWithin n) (log_at w p) x (log_within n w p b) h) b.logs;
  messages = b.messages;
  sessions = b.sessions;
  generations = b.generations;
  elections = b.elections;
}

bounded_coord : (n : ℕ) (w : World) (a : ℕ) (s : Coordinator) → Bounded n w → Limit s.status s.epoch → Bounded n (with_coord w a s)
bounded_coord n w a s b h = record {
  coordinators = All-set (λ t. Limit t.status t.epoch) w.coordinators a s h b.coordinators;
  logs = b.logs;
  messages = b.messages;
  sessions = b.sessions;
  generations = b.generations;
  elections = b.elections;
}

bounded_written : (n : ℕ) (u : Switches) (c : Config) (w : World) (a : ℕ) (x : Entry) → Bounded n w → Limit x.status x.epoch → Bounded n (written u c w a x)
bounded_written n u c w a x b h = bounded_coord n (with_item w (txn_index c a) (State a (said_entry u c x) w.events)) a (state_of x) (bounded_item n w (txn_index c a) (State a (said_entry u c x) w.events) b h) h

-- other messages, sessions and numbers
abbrev pub like : World → List Message → List Bool → List Session → List ℕ → ℕ → World
like w ms ac ss gs n = record { logs = w.logs; coordinators = w.coordinators; messages = ms; accepted = ac; sessions = ss; generations = gs; elections = w.elections; events = n }

bounded_like : (n : ℕ) (w : World) (ms : List Message) (ac : List Bool) (ss : List Session) (gs : List ℕ) (m : ℕ) → Bounded n w → All (IsSent n) ms → All (IsSafe n) ss → All (λ g. g ≤ n) gs → Bounded n (like w ms ac ss gs m)
bounded_like n w ms ac ss gs m b h k l = record { coordinators = b.coordinators; logs = b.logs; messages = h; sessions = k; generations = l; elections = b.elections }

sent_markers : (n a e : ℕ) (k : Kind) (ps : List ℕ) → e ≤ last_epoch + 1 → All (IsSent n) (due_markers a e k ps)
sent_markers n a e k [] h = All-nil (IsSent n)
sent_markers n a e k (p ∷ ps) h = All-cons (IsSent n) (messages.Marker a e k p) (due_markers a e k ps) h (sent_markers n a e k ps h)

bounded_prepared : (n : ℕ) (u : Switches) (c : Config) (w : World) (a : ℕ) (k : Kind) (ps : List ℕ) → Bounded n w → (coord_at w a).epoch ≤ last_epoch → Bounded n (prepared u c w a k ps)
bounded_prepared n u c w a k ps b l =
    let x : Entry = record { status = Prepare k; epoch = (coord_at w a).epoch + 1; partitions = ps } in
    let v = bounded_written n u c w a x b (omega (arith, l)) in
    bounded_like n (written u c w a x) _ _ _ _ _ v (All-append (IsSent n) w.messages (due_markers a ((coord_at w a).epoch + 1) k ps) b.messages (sent_markers n a ((coord_at w a).epoch + 1) k ps (omega (arith, l)))) b.sessions b.generations

bounded_finished : (n : ℕ) (u : Switches) (c : Config) (w : World) (a : ℕ) (k : Kind) → Bounded n w → Bounded n (finished u c w a k)
bounded_finished n u c w a k b = bounded_written n u c w a (record { status = Complete k; epoch = (coord_at w a).epoch; partitions = [] }) b (limit_top (coord_at w a).status (coord_at w a).epoch (coord_within n w a b))

bounded_partition : (n : ℕ) (u : Switches) (c : Config) (w : World) (a p : ℕ) → Bounded n w → (coord_at w a).epoch ≤ last_epoch → Bounded n (with_partition u c w a p)
bounded_partition n u c w a p b l =
    elim (is_ongoing (coord_at w a).status && has p (coord_at w a).partitions) as (λ t. Bounded n (if t then w else written u c w a (record { status = Ongoing; epoch = (coord_at w a).epoch; partitions = listed p (ongoing_partitions (coord_at w a).status (coord_at w a).partitions) }))) [
      | true ↦ b
      | false ↦ bounded_written n u c w a (record { status = Ongoing; epoch = (coord_at w a).epoch; partitions = listed p (ongoing_partitions (coord_at w a).status (coord_at w a).partitions) }) b l
    ]

bounded_appended : (n : ℕ) (w : World) (m p : ℕ) (x : Item) → Bounded n w → IsWithin n x → Bounded n (appended w m p x)
bounded_appended n w m p x b h =
    let i = bounded_item n w p x b h in
    bounded_like n (with_item w p x) _ _ _ _ _ i i.messages i.sessions i.generations

bounded_accept : (n : ℕ) (u : Switches) (c : Config) (w : World) (m a p : ℕ) (x : Item) → Bounded n w → (coord_at w a).epoch ≤ last_epoch → IsWithin n x → Bounded n (accept u c w m a p x)
bounded_accept n u c w m a p x b l h =
    bounded_appended n (with_partition u c w a p) m p x (bounded_partition n u c w a p b l) h

bounded_fenced : (n : ℕ) (u : Switches) (w : World) (m p : ℕ) (x : Item) → Bounded n w → IsWithin n x → Bounded n (fenced u w m p x).0
bounded_fenced n u w m p x b h = elim u.no_fence as (λ t. Bounded n (if◌then◌else◌ {A = Answer} t (appended w m p x, Done (length (log_at w p))) (w, Fenced)).0) [
  | true ↦ bounded_appended n w m p x b h
  | false ↦ b
]

marker_within : (n : ℕ) (u : Switches) (m : ℕ) → m ≤ last_epoch + 1 → marker_epoch u m ≤ last_epoch + 1
marker_within n u m h = elim u.no_bump as (λ t. (if t then m - 1 else m) ≤ last_epoch + 1) [
  | true ↦ omega (arith, h)
  | false ↦ h
]

bounded_marked : (n : ℕ) (u : Switches) (c : Config) (w : World) (a m : ℕ) (k : Kind) (p : ℕ) → Bounded n w → m ≤ last_epoch + 1 → Bounded n (marked u c w a m k p)
bounded_marked n u c w a m k p b h = elim u.lose_marker as (λ t. Bounded n (if t then w else with_item w p (marker_of u c a m k p w.events))) [
  | true ↦ b
  | false ↦ bounded_item n w p (marker_of u c a m k p w.events) b (marker_within n u m h)
]

bounded_ticked : (n : ℕ) (u : Switches) (c : Config) (w : World) (a m : ℕ) (k : Kind) (p : ℕ) → Bounded n w → m ≤ last_epoch + 1 → Bounded n (ticked u c w a m k p)
bounded_ticked n u c w a m k p b h = bounded_coord n (marked u c w a m k p) a (ticked_off (coord_at w a) p) (bounded_marked n u c w a m k p b h) (coord_within n w a b)

-- ---- messages

abbrev pub SentIf : ℕ → Option Message → Type 0
SentIf n None = ⊤
SentIf n (Some x) = IsSent n x

message_at : (n : ℕ) (ms : List Message) (i : ℕ) → All (IsSent n) ms → SentIf n (slice_get ms i)
message_at n [] i h = tt
message_at n (x ∷ ms) zero h = All-head (IsSent n) x ms h
message_at n (x ∷ ms) (suc i) h = message_at n ms i (All-tail (IsSent n) x ms h)

bounded_deliver : (n : ℕ) (u : Switches) (c : Config) (w : World) (m : ℕ) (r : Option Message) → Bounded n w → SentIf n r → Bounded n (deliver u c w m r).0
bounded_deliver n u c w m None b h = b
bounded_deliver n u c w m (Some (messages.Output a e p s x v)) b h =
    let o = bounded_fenced n u w m (written_index c a p) (Output a e s x v w.events) b h in
    bounded_if n _ _ _ (λ t. o) (λ f1. bounded_if n _ _ _ (λ t. b) (λ f2. bounded_if n _ _ _ (λ t. b) (λ f3. bounded_if n _ _ _ (λ t. o) (λ f4. bounded_if n _ _ _ (λ t. b) (λ f5.
    bounded_accept n u c w m a _ (Output a e s x v w.events) b (current_low (coord_at w a) e (not_false _ f4) h.0) h)))))
bounded_deliver n u c w m (Some (messages.Offset a e g q v)) b h =
    let o = bounded_fenced n u w m 0 (Offset a e q v w.events) b h in
    bounded_if n _ _ _ (λ t. b) (λ f1. bounded_if n _ _ _ (λ t. b) (λ f2. bounded_if n _ _ _ (λ t. o) (λ f3. bounded_if n _ _ _ (λ t. o) (λ f4. bounded_if n _ _ _ (λ t. b) (λ f5.
    bounded_accept n u c w m a 0 (Offset a e q v w.events) b (current_low (coord_at w a) e (not_false _ f4) h) h)))))
bounded_deliver n u c w m (Some (messages.End a e k)) b h =
    bounded_if n _ _ _ (λ t. b) (λ f1. bounded_if n _ _ _ (λ t. b) (λ f2.
    let low : (coord_at w a).epoch ≤ last_epoch = current_low (coord_at w a) e (not_false _ (or_parts (not (is_current (coord_at w a) e)) (is_prepare (coord_at w a).status) f2).0) h in
    bounded_if n _ _ _ (λ t. b) (λ f3. bounded_if n _ _ _
    (λ t. bounded_finished n u c (prepared u c w a k []) a k (bounded_prepared n u c w a k [] b low))
    (λ f4. bounded_prepared n u c w a k _ b low))))
bounded_deliver n u c w m (Some (messages.Marker a e k p)) b h =
    let s = bounded_ticked n u c w a e k p b h in
    bounded_if n _ _ _ (λ t. b) (λ f1. bounded_if n _ _ _ (λ t. bounded_marked n u c w a e k p b h) (λ f2. bounded_if n _ _ _
    (λ t. bounded_finished n u c (ticked u c w a e k p) a k s) (λ f3. s)))

bounded_writing : (n : ℕ) (u : Switches) (c : Config) (w : World) (r : Option Message) → Bounded n w → SentIf n r → Bounded n (write_marker u c w r).0
bounded_writing n u c w None b h = b
bounded_writing n u c w (Some (messages.Output a e p s x v)) b h = b
bounded_writing n u c w (Some (messages.Offset a e g q v)) b h = b
bounded_writing n u c w (Some (messages.End a e k)) b h = b
bounded_writing n u c w (Some (messages.Marker a e k p)) b h =
    bounded_if n _ _ _ (λ t. b) (λ f1. bounded_if n _ _ _ (λ t. bounded_marked n u c w a e k p b h) (λ f2. bounded_ticked n u c w a e k p b h))

bounded_completed : (n : ℕ) (u : Switches) (c : Config) (w : World) (a : ℕ) (t : Status) → Bounded n w → Bounded n (complete_prepared u c w a t).0
bounded_completed n u c w a Empty b = b
bounded_completed n u c w a Ongoing b = b
bounded_completed n u c w a (Prepare k) b = bounded_if n _ _ _ (λ t. b) (λ f. bounded_finished n u c w a k b)
bounded_completed n u c w a (Complete k) b = b

-- ---- sessions

none_sent : (n m : ℕ) → All (λ q. q ≤ n) (replicate m 0)
none_sent n zero = All-nil (λ q. q ≤ n)
none_sent n (suc m) = All-cons (λ q. q ≤ n) 0 (replicate m 0) (omega arith) (none_sent n m)

abbrev pub SafeIf : ℕ → Option Session → Type 0
SafeIf n None = ⊤
SafeIf n (Some s) = IsSafe n s

pub safe_at : (n : ℕ) (ss : List Session) (i : ℕ) → All (IsSafe n) ss → SafeIf n (slice_get ss i)
safe_at n [] i h = tt
safe_at n (s ∷ ss) zero h = All-head (IsSafe n) s ss h
safe_at n (s ∷ ss) (suc i) h = safe_at n ss i (All-tail (IsSafe n) s ss h)

pub sequence_within : (n : ℕ) (s : Session) (p : ℕ) → IsSafe n s → sequence_of s p ≤ n
sequence_within n s p h = all_at (λ q. q ≤ n) s.sequences p 0 (omega arith) h.1

bounded_sent : (n : ℕ) (w : World) (m : ℕ) (s : Session) (x : Message) → Bounded n w → IsSafe n s → IsSent n x → Bounded n (like w (w.messages ++ x ∷ []) (w.accepted ++ false ∷ []) (slice_set w.sessions m s) w.generations w.events)
bounded_sent n w m s x b h k = bounded_like n w _ _ _ _ _ b (All-push (IsSent n) w.messages x b.messages k) (All-set (IsSafe n) w.sessions m s h b.sessions) b.generations

bounded_produce : (n : ℕ) (c : Config) (w : World) (m p : ℕ) (x : Option Claim) (r : Option Session) → Bounded n w → SafeIf n r → Bounded (n + 1) (produce c w m p x r).0
bounded_produce n c w m p x None b h = bounded_more n w b
bounded_produce n c w m p x (Some s) b h =
    let d = bounded_more n w b in
    let l = sequence_within n s p h in
    bounded_if (n + 1) _ _ _ (λ t. d) (λ f1. bounded_if (n + 1) _ _ _ (λ t. d) (λ f2.
    bounded_sent (n + 1) w m (after_output s p (length w.messages)) (messages.Output s.application s.epoch p (sequence_of s p) x w.events) d
    (h.0, All-set (λ q. q ≤ n + 1) s.sequences p (sequence_of s p + 1) (omega (arith, l)) (sequences_more n s.sequences h.1)) (h.0, omega (arith, l))))

bounded_commit_offset : (n : ℕ) (c : Config) (w : World) (m q : ℕ) (v : Option ℕ) (r : Option Session) → Bounded n w → SafeIf n r → Bounded n (commit_offset c w m q v r).0
bounded_commit_offset n c w m q v None b h = b
bounded_commit_offset n c w m q v (Some s) b h = bounded_if n _ _ _ (λ t. b) (λ f1. bounded_if n _ _ _ (λ t. b) (λ f2. bounded_sent n w m (after_offset s (length w.messages)) _ b h h.0))

bounded_commit : (n : ℕ) (c : Config) (w : World) (m q : ℕ) (v : Option ℤ) → Bounded n w → Bounded n (commit c w m q v).0
bounded_commit n c w m q None b = bounded_commit_offset n c w m q None (slice_get w.sessions m) b (safe_at n w.sessions m b.sessions)
bounded_commit n c w m q (Some (pos v)) b = bounded_commit_offset n c w m q (Some v) (slice_get w.sessions m) b (safe_at n w.sessions m b.sessions)
bounded_commit n c w m q (Some (negsuc v)) b = b

bounded_end : (n : ℕ) (w : World) (m : ℕ) (k : Kind) (r : Option Session) → Bounded n w → SafeIf n r → Bounded n (end_session w m k r).0
bounded_end n w m k None b h = b
bounded_end n w m k (Some s) b h = bounded_if n _ _ _ (λ t. b) (λ f. bounded_sent n w m (after_end s k) _ b h h.0)

bounded_ended : (n : ℕ) (c : Config) (w : World) (m : ℕ) (s : Session) (k : Option Kind) → Bounded n w → Bounded n (resume_ended c w m s k).0
bounded_ended n c w m s None b = b
bounded_ended n c w m s (Some k) b =
    bounded_if n _ _ _ (λ t. b) (λ f1. bounded_if n _ _ _ (λ t. b) (λ f2. bounded_if n _ _ _ (λ t. b) (λ f3.
    bounded_like n w _ _ _ _ _ b b.messages (All-set (IsSafe n) w.sessions m (after_resume c s) (not_lt last_epoch (s.epoch + 1) f3, none_sent n c.outputs) b.sessions) b.generations)))

bounded_resume : (n : ℕ) (c : Config) (w : World) (m : ℕ) (r : Option Session) → Bounded n w → Bounded n (resume c w m r).0
bounded_resume n c w m None b = b
bounded_resume n c w m (Some s) b = bounded_ended n c w m s s.ending b

bounded_fetch : (n : ℕ) (c : Config) (w : World) (q : ℕ) (r : Option Session) → Bounded n w → Bounded n (fetch c w q r).0
bounded_fetch n c w q None b = b
bounded_fetch n c w q (Some s) b = bounded_if n _ _ _ (λ t. b) (λ f1. bounded_if n _ _ _ (λ t. b) (λ f2. bounded_if n _ _ _ (λ t. b) (λ f3. b)))

bounded_session : (n : ℕ) (u : Switches) (c : Config) (w : World) (a e : ℕ) → Bounded n w → Bounded n (start_session u c w a e).0
bounded_session n u c w a e b =
    bounded_if n _ _ _ (λ t. b) (λ f.
    let low = not_lt last_epoch e f in
    let x : Entry = record { status = Empty; epoch = e; partitions = [] } in
    let v = bounded_written n u c w a x b low in
    bounded_like n (written u c w a x) _ _ _ _ _ v v.messages (All-push (IsSafe n) w.sessions (new_session c a e (generation_of c w a)) b.sessions (low, none_sent n c.outputs)) b.generations)

bounded_start : (n : ℕ) (u : Switches) (c : Config) (w : World) (a : ℕ) → Bounded n w → Bounded n (start u c w a).0
bounded_start n u c w a b =
    bounded_if n _ _ _ (λ t. b) (λ f1. bounded_if n _ _ _ (λ t. b) (λ f2. bounded_if n _ _ _
    (λ t. bounded_prepared n u c w a Abort _ b (limit_ongoing (coord_at w a).status (coord_at w a).epoch t (coord_within n w a b)))
    (λ f3. bounded_session n u c w a _ b)))

bounded_added : (n : ℕ) (u : Switches) (c : Config) (w : World) (p : Option ℕ) (r : Option Session) → Bounded n w → SafeIf n r → Bounded n (add_partition u c w p r).0
bounded_added n u c w p None b h = b
bounded_added n u c w p (Some s) b h =
    bounded_if n _ _ _ (λ t. b) (λ f1. bounded_if n _ _ _ (λ t. b) (λ f2. bounded_if n _ _ _ (λ t. b) (λ f3. bounded_if n _ _ _ (λ t. b) (λ f4.
    bounded_partition n u c w s.application (target_index c s.application p) b (current_low (coord_at w s.application) s.epoch (not_false _ f3) h.0)))))

-- ---- the coordinator restarts

last_within : (n : ℕ) (s : Coordinator) (a : ℕ) (log : List Item) → Limit s.status s.epoch → All (IsWithin n) log → Limit (last_state s (entries_of a log)).status (last_state s (entries_of a log)).epoch
last_within n s a [] e h = e
last_within n s a (Fed m ∷ xs) e h = last_within n s a xs e (All-tail (IsWithin n) (Fed m) xs h)
last_within n s a (Output b f q x v m ∷ xs) e h = last_within n s a xs e (All-tail (IsWithin n) (Output b f q x v m) xs h)
last_within n s a (Offset b f q v m ∷ xs) e h = last_within n s a xs e (All-tail (IsWithin n) (Offset b f q v m) xs h)
last_within n s a (Marker b f k m ∷ xs) e h = last_within n s a xs e (All-tail (IsWithin n) (Marker b f k m) xs h)
last_within n s a (State b x m ∷ xs) e h =
    elim (b == a) as (λ t. Limit (last_state s (cons_option (if t then Some x else None) (entries_of a xs))).status (last_state s (cons_option (if t then Some x else None) (entries_of a xs))).epoch) [
      | true ↦ last_within n (state_of x) a xs (All-head (IsWithin n) (State b x m) xs h) (All-tail (IsWithin n) (State b x m) xs h)
      | false ↦ last_within n s a xs e (All-tail (IsWithin n) (State b x m) xs h)
    ]

reread_within : (n : ℕ) (c : Config) (w : World) (a : ℕ) → Bounded n w → Limit (reread c w a).status (reread c w a).epoch
reread_within n c w a b = last_within n fresh a (log_at w (txn_index c a)) (omega arith) (log_within n w (txn_index c a) b)

due_within : (n a : ℕ) (t : Status) (e : ℕ) (ps : List ℕ) → Limit t e → All (IsSent n) (due_again t a e ps)
due_within n a Empty e ps h = All-nil (IsSent n)
due_within n a Ongoing e ps h = All-nil (IsSent n)
due_within n a (Complete k) e ps h = All-nil (IsSent n)
due_within n a (Prepare k) e ps h = sent_markers n a e k ps h

all_of_each : (P : Coordinator → Type 0) (f : ℕ → Coordinator) (ks : List ℕ) → ((k : ℕ) → P (f k)) → All P (map f ks)
all_of_each P f [] h = All-nil P
all_of_each P f (k ∷ ks) h = All-cons P (f k) (map f ks) (h k) (all_of_each P f ks h)

all_flat : (P : Message → Type 0) (f : ℕ → List Message) (ks : List ℕ) → ((k : ℕ) → All P (f k)) → All P (flat_map f ks)
all_flat P f [] h = All-nil P
all_flat P f (k ∷ ks) h = All-append P (f k) (flat_map f ks) (h k) (all_flat P f ks h)

bounded_elected : (n : ℕ) (w : World) (k : ℕ) (r : Option ℕ) → Bounded n w → Bounded n (elect w k r).0
bounded_elected n w k None b = b
bounded_elected n w k (Some p) b = bounded_if n _ _ _ (λ t. b) (λ f1. bounded_if n _ _ _ (λ t. b) (λ f2. record {
  coordinators = b.coordinators;
  logs = All-set (All (IsWithin n)) w.logs p (take k (log_at w p)) (All-take (IsWithin n) k (log_at w p) (log_within n w p b)) b.logs;
  messages = b.messages;
  sessions = b.sessions;
  generations = b.generations;
  elections = All-push (λ x. x.leader_epoch < 2 ^ 16) w.elections (election_of w p k) b.elections (next (epoch_at w p) (not_false _ f2));
}))
  where
    next : (e : ℕ) → nat_lt e 65535 ≡ true → e + 1 < 2 ^ 16
    next e h = let l = is_lt e 65535 h in omega (arith, l)

-- ---- any event, and any list

pub bounded_event : (n : ℕ) (u : Switches) (c : Config) (w : World) (e : Event) → Bounded n w → Bounded (n + 1) (happens_under u c w e).0
bounded_event n u c w (events.Feed p) b = let d = bounded_more n w b in bounded_if (n + 1) _ _ _ (λ t. d) (λ f. bounded_item (n + 1) w (input_index c p) (Fed w.events) d tt)
bounded_event n u c w (events.Start a) b = bounded_start (n + 1) u c w a (bounded_more n w b)
bounded_event n u c w (events.Produce m p x) b = bounded_produce n c w m p x (slice_get w.sessions m) b (safe_at n w.sessions m b.sessions)
bounded_event n u c w (events.Commit m q v) b = bounded_commit (n + 1) c w m q v (bounded_more n w b)
bounded_event n u c w (events.End m k) b = let d = bounded_more n w b in bounded_end (n + 1) w m k (slice_get w.sessions m) d (safe_at (n + 1) w.sessions m d.sessions)
bounded_event n u c w (events.Resume m) b = bounded_resume (n + 1) c w m (slice_get w.sessions m) (bounded_more n w b)
bounded_event n u c w (events.Fetch m q) b = bounded_fetch (n + 1) c w q (slice_get w.sessions m) (bounded_more n w b)
bounded_event n u c w (events.Members g) b =
    let d = bounded_more n w b in
    let l = generation_within n w g b in
    bounded_if (n + 1) _ _ _ (λ t. d) (λ f. bounded_like (n + 1) w _ _ _ _ _ d d.messages d.sessions (All-set (λ k. k ≤ n + 1) w.generations g (generation_at w g + 1) (omega (arith, l)) d.generations))
bounded_event n u c w (events.BrokerRestart t p) b = let d = bounded_more n w b in bounded_if (n + 1) _ _ _ (λ t. d) (λ f. d)
bounded_event n u c w events.CoordinatorRestart b =
    let d = bounded_more n w b in
    record {
      coordinators = all_of_each (λ s. Limit s.status s.epoch) (reread c w) (range_with_len 0 (length w.coordinators)) (λ a. reread_within (n + 1) c w a d);
      logs = d.logs;
      messages = All-append (IsSent (n + 1)) w.messages (flat_map (queued_again c w) (range_with_len 0 (length w.coordinators))) d.messages
          (all_flat (IsSent (n + 1)) (queued_again c w) (range_with_len 0 (length w.coordinators)) (λ a. due_within (n + 1) a (reread c w a).status (reread c w a).epoch (reread c w a).partitions (reread_within (n + 1) c w a d)));
      sessions = d.sessions;
      generations = d.generations;
      elections = d.elections;
    }
bounded_event n u c w (events.Deliver m) b = let d = bounded_more n w b in bounded_deliver (n + 1) u c w m (slice_get w.messages m) d (message_at (n + 1) w.messages m d.messages)
bounded_event n u c w (events.TimeOut a) b =
    let d = bounded_more n w b in
    bounded_if (n + 1) _ _ _ (λ t. d) (λ f1. bounded_if (n + 1) _ _ _ (λ t. d) (λ f2.
    let low = limit_ongoing (coord_at w a).status (coord_at w a).epoch (not_false _ f2) (coord_within (n + 1) w a d) in
    bounded_deliver (n + 1) u c w 0 (Some (messages.End a (coord_at w a).epoch Abort)) d low))
bounded_event n u c w (events.AddPartition m p) b = let d = bounded_more n w b in bounded_added (n + 1) u c w p (slice_get w.sessions m) d (safe_at (n + 1) w.sessions m d.sessions)
bounded_event n u c w (events.WriteMarker m) b = let d = bounded_more n w b in bounded_writing (n + 1) u c w (slice_get w.messages m) d (message_at (n + 1) w.messages m d.messages)
bounded_event n u c w (events.Complete a) b = let d = bounded_more n w b in bounded_if (n + 1) _ _ _ (λ t. d) (λ f. bounded_completed (n + 1) u c w a (coord_at w a).status d)
bounded_event n u c w (events.Elect t p k) b = bounded_elected (n + 1) w k (electable_at c t p) (bounded_more n w b)

pub bounded_opening : (c : Config) → Bounded 0 (opening c)
bounded_opening c = record {
  coordinators = all_replicated (λ s. Limit s.status s.epoch) (application_count c) fresh (omega arith);
  logs = all_replicated (All (IsWithin 0)) (log_count c) [] (All-nil (IsWithin 0));
  messages = All-nil (IsSent 0);
  sessions = All-nil (IsSafe 0);
  generations = all_replicated (λ g. g ≤ 0) (group_count c) 0 (omega arith);
  elections = All-nil (λ x. x.leader_epoch < 2 ^ 16);
}
  where
    all_replicated : {X : Type 0} (P : X → Type 0) (n : ℕ) (x : X) → P x → All P (replicate n x)
    all_replicated P zero x h = All-nil P
    all_replicated P (suc n) x h = All-cons P x (replicate n x) h (all_replicated P n x h)

-- by the number of its own events
abbrev pub IsBounded : World → Type 0
IsBounded w = Bounded w.events w

bounded_counted : (n : ℕ) (x : Answer) → Bounded (n + 1) x.0 → IsBounded (counted n x).0
bounded_counted n x b = bounded_like (n + 1) x.0 _ _ _ _ _ b b.messages b.sessions b.generations

step_if : (t : Bool) (x y : Answer) → IsBounded x.0 → IsBounded y.0 → IsBounded (when t x y).0
unfolding when
step_if true x y f g = f
step_if false x y f g = g

pub bounded_step : (u : Switches) (c : Config) (w : World) (e : Event) → IsBounded w → IsBounded (step_under u c w e).0
bounded_step u c w e b = step_if _ _ _ b (bounded_counted w.events (happens_under u c w e) (bounded_event w.events u c w e b))

pub bounded_run : (c : Config) (w : World) (es : List Event) → IsBounded w → IsBounded (world_after c w es)
bounded_run c w [] b = b
bounded_run c w (e ∷ es) b = bounded_run c (step c w e).0 es (bounded_step none c w e b)

pub bounded_run_under : (c : Config) (w : World) (xs : List (Switches × Event)) → IsBounded w → IsBounded (world_under c w xs)
bounded_run_under c w [] b = b
bounded_run_under c w (x ∷ xs) b = bounded_run_under c (step_under x.0 c w x.1).0 xs (bounded_step x.0 c w x.1 b)
