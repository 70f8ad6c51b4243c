-- What every event keeps of the logs, whatever switches are on: what items name is there, and an event appends two at the most.
use Rattle.std.proofs.Common.{◌≡◌, ℕ, ℤ, pos, negsuc, zero, suc, ◌+◌, ◌^◌, ◌<◌, ◌≤◌, ◌==◌, ◌&&◌, not, Bool, true, false, List, [], ◌∷◌, ◌++◌, length, map, Option, Some, None, refl, sym, subst, arith, slice_index_or, slice_set, take, if◌then◌else◌, length-append}
use Rattle.std.specs.Prelude.{slice_get, ⊤, nat_lt}
use Rattle.std.specs.List.{All, flat_map, range_with_len, cons_option}
use Rattle.std.proofs.lemmas.List.{length-take}
use Rattle.std.proofs.lemmas.List.Elements.{All-nil, All-cons, All-head, All-tail, All-push, All-append, All-set, All-take}
use Rattle.std.proofs.lemmas.Bool.{or_parts}
use Rattle.eos_batch.specs.declared.marker.Kind.{Kind}
use Rattle.eos_batch.specs.declared.marker.Kind.TheVariants.{Abort}
use Rattle.eos_machine.specs.declared.switches.Switches.{Switches}
use Rattle.eos_machine.specs.declared.config.Config.{Config}
use Rattle.eos_machine.specs.LogIndexes.{application_count, txn_index, input_index, written_index, target_index, log_count, listed}
use Rattle.eos_machine.specs.declared.item.Claim.{Claim}
use Rattle.eos_machine.specs.declared.item.Status.{Status}
use Rattle.eos_machine.specs.declared.item.Status.TheVariants.{Empty, Ongoing, Prepare, Complete}
use Rattle.eos_machine.specs.declared.item.Entry.{Entry}
use Rattle.eos_machine.specs.declared.item.Item.{Item}
use Rattle.eos_machine.specs.declared.item.Item.TheVariants.{Fed, State, Output, Offset, Marker}
use Rattle.eos_machine.specs.declared.state.Coordinator.{Coordinator}
use Rattle.eos_machine.specs.declared.state.Session.{Session}
use Rattle.eos_machine.specs.declared.state.Message.{Message}
use Rattle.eos_machine.specs.declared.event.Event.{Event}
use Rattle.eos_machine.specs.declared.event.Reply.TheVariants.{Done, Fenced}
use Rattle.eos_machine.specs.World.{World, fresh, log_at, coord_at, with_item, with_coord, said, said_entry, without_odd_outputs, state_of, written, due_markers, prepared, finished}
use Rattle.eos_machine.specs.declared.state.Message.TheVariants as messages
use Rattle.eos_machine.specs.declared.event.Event.TheVariants as events
use Rattle.eos_machine.specs.Logs.{entries_of, last_state}
use Rattle.eos_machine.specs.Rules.{marker_of}
use Rattle.eos_machine.specs.Tests.{is_ongoing, has, ongoing_partitions}
use Rattle.eos_machine.specs.Answers.{Answer, when}
use Rattle.eos_machine.specs.Sessions.{claimed_topic, sequence_of, after_output, after_offset, after_end, sent, produce, commit_offset, commit, end_session, resume_ended, resume, fetch}
use Rattle.eos_machine.specs.Deliveries.{with_partition, appended, accept, fenced, marked, ticked_off, ticked, deliver, write_marker, complete_prepared}
use Rattle.eos_machine.specs.Elections.{electable_at, elect}
use Rattle.eos_machine.specs.Machine.{start_session, start, reread, due_again, queued_again, happens_under, add_partition}
use Rattle.eos_machine.specs.Formed.{IsFormed}
use Rattle.eos_machine.proofs.Brokers.{is_lt, not_lt}
use Rattle.eos_machine.proofs.Written.{written_there, target_there, source_there}
use Rattle.eos_machine.proofs.FormedEvents.{NamesIf, message_at, OneIf, session_at}
use Rattle.eos_machine.specs.steps.Writable.{total}
use Rattle.eos_machine.proofs.ListedPlaces.{AreListed, listed_filter, listed_more, none_listed}

-- P is what holds of the claims' topics
abbrev pub KeptItem : (List ℕ → Type 0) → Config → Item → Type 0
KeptItem P c (Fed n) = n < 2 ^ 31
KeptItem P c (State a x n) = (a < application_count c) × AreListed c x.partitions × (n < 2 ^ 31)
KeptItem P c (Output a e s x v n) = (a < application_count c) × P (claimed_topic x) × (v < 2 ^ 31) × (n < 2 ^ 31)
KeptItem P c (Offset a e q v n) = (a < application_count c) × (q < c.inputs + c.outputs) × (n < 2 ^ 31)
KeptItem P c (Marker a e k n) = (a < application_count c) × (n < 2 ^ 31)

abbrev pub KeptMessage : (List ℕ → Type 0) → Config → Message → Type 0
KeptMessage P c (messages.Output a e p s x v) = P (claimed_topic x) × (v < 2 ^ 31)
KeptMessage P c (messages.Offset a e g q v) = q < c.inputs + c.outputs
KeptMessage P c (messages.End a e k) = ⊤
KeptMessage P c (messages.Marker a e k p) = ⊤

pub record Kept (P : List ℕ → Type 0) (c : Config) (k : ℕ) (w : World) : Type 0 where
  pub coordinators : All (λ s. AreListed c s.partitions) w.coordinators
  pub logs : All (All (KeptItem P c)) w.logs
  pub messages : All (KeptMessage P c) w.messages
  pub count : total w.logs ≤ k

-- the topic of a claim that is sent
abbrev pub TopicIs : (List ℕ → Type 0) → Event → Type 0
TopicIs P (events.Feed p) = ⊤
TopicIs P (events.Start a) = ⊤
TopicIs P (events.Produce n p x) = length (claimed_topic x) ≤ 249 → P (claimed_topic x)
TopicIs P (events.Commit n q v) = ⊤
TopicIs P (events.End n k) = ⊤
TopicIs P (events.Resume n) = ⊤
TopicIs P (events.Fetch n q) = ⊤
TopicIs P (events.Members g) = ⊤
TopicIs P (events.BrokerRestart t p) = ⊤
TopicIs P events.CoordinatorRestart = ⊤
TopicIs P (events.Deliver n) = ⊤
TopicIs P (events.TimeOut a) = ⊤
TopicIs P (events.AddPartition n p) = ⊤
TopicIs P (events.WriteMarker n) = ⊤
TopicIs P (events.Complete a) = ⊤
TopicIs P (events.Elect s p k) = ⊤

-- ---- parts

all_at : {X : Type 0} (P : X → Type 0) (xs : List X) (i : ℕ) (d : X) → P d → All P xs → P (slice_index_or xs i d)
all_at P [] i d p h = p
all_at P (x ∷ xs) zero d p h = All-head P x xs h
all_at P (x ∷ xs) (suc i) d p h = all_at P xs i d p (All-tail P x xs h)

pub log_kept : (P : List ℕ → Type 0) (c : Config) (k : ℕ) (w : World) (p : ℕ) → Kept P c k w → All (KeptItem P c) (log_at w p)
log_kept P c k w p h = all_at (All (KeptItem P c)) w.logs p [] (All-nil (KeptItem P c)) h.logs

coord_kept : (P : List ℕ → Type 0) (c : Config) (k : ℕ) (w : World) (a : ℕ) → Kept P c k w → AreListed c (coord_at w a).partitions
coord_kept P c k w a h = all_at (λ s. AreListed c s.partitions) w.coordinators a fresh (none_listed c) h.coordinators

kept_more : (P : List ℕ → Type 0) (c : Config) (k l : ℕ) (w : World) → k ≤ l → Kept P c k w → Kept P c l w
kept_more P c k l w m h = record { coordinators = h.coordinators; logs = h.logs; messages = h.messages; count = omega (arith, m, h.count) }

kept_if : (P : List ℕ → Type 0) (c : Config) (k : ℕ) (t : Bool) (x y : Answer) → Kept P c k x.0 → (t ≡ false → Kept P c k y.0) → Kept P c k (when t x y).0
unfolding when
kept_if P c k true x y f g = f
kept_if P c k false x y f g = g refl

not_false : (b : Bool) → not b ≡ false → b ≡ true
not_false true h = refl
not_false false h = absurd cc

-- ---- changes

total_more : (ls : List (List Item)) (p : ℕ) (x : Item) → total (slice_set ls p (slice_index_or ls p [] ++ x ∷ [])) ≤ total ls + 1
total_more [] p x = omega arith
total_more (l ∷ ls) zero x = let e = length-append l (x ∷ []) in omega (arith, e)
total_more (l ∷ ls) (suc p) x = let e = total_more ls p x in omega (arith, e)

kept_item : (P : List ℕ → Type 0) (c : Config) (k : ℕ) (w : World) (p : ℕ) (x : Item) → Kept P c k w → KeptItem P c x → Kept P c (k + 1) (with_item w p x)
kept_item P c k w p x h i = record {
  coordinators = h.coordinators;
  logs = All-set (All (KeptItem P c)) w.logs p (log_at w p ++ x ∷ []) (All-push (KeptItem P c) (log_at w p) x (log_kept P c k w p h) i) h.logs;
  messages = h.messages;
  count = let m = total_more w.logs p x in omega (arith, m, h.count);
}

kept_coord : (P : List ℕ → Type 0) (c : Config) (k : ℕ) (w : World) (a : ℕ) (s : Coordinator) → Kept P c k w → AreListed c s.partitions → Kept P c k (with_coord w a s)
kept_coord P c k w a s h l = record { coordinators = All-set (λ t. AreListed c t.partitions) w.coordinators a s l h.coordinators; logs = h.logs; messages = h.messages; count = h.count }

said_listed : (u : Switches) (c : Config) (ps : List ℕ) → AreListed c ps → AreListed c (said u c ps)
said_listed u c ps h = by u.hide_listing
  where
    by : (t : Bool) → AreListed c (if t then without_odd_outputs c ps else ps)
    by true = listed_filter c _ ps h
    by false = h

kept_written : (P : List ℕ → Type 0) (c : Config) (k : ℕ) (u : Switches) (w : World) (a : ℕ) (x : Entry) → a < application_count c → w.events < 2 ^ 31 → AreListed c x.partitions → Kept P c k w → Kept P c (k + 1) (written u c w a x)
kept_written P c k u w a x l n m h =
    kept_coord P c (k + 1) (with_item w (txn_index c a) (State a (said_entry u c x) w.events)) a (state_of x)
    (kept_item P c k w (txn_index c a) (State a (said_entry u c x) w.events) h (l, said_listed u c x.partitions m, n)) m

markers_kept : (P : List ℕ → Type 0) (c : Config) (a e : ℕ) (k : Kind) (ps : List ℕ) → All (KeptMessage P c) (due_markers a e k ps)
markers_kept P c a e k [] = All-nil (KeptMessage P c)
markers_kept P c a e k (p ∷ ps) = All-cons (KeptMessage P c) (messages.Marker a e k p) (due_markers a e k ps) tt (markers_kept P c a e k ps)

kept_prepared : (P : List ℕ → Type 0) (c : Config) (n : ℕ) (u : Switches) (w : World) (a : ℕ) (k : Kind) (ps : List ℕ) → a < application_count c → w.events < 2 ^ 31 → AreListed c ps → Kept P c n w → Kept P c (n + 1) (prepared u c w a k ps)
kept_prepared P c n u w a k ps l m g h =
    let v = kept_written P c n u w a (record { status = Prepare k; epoch = (coord_at w a).epoch + 1; partitions = ps }) l m g h in
    record { coordinators = v.coordinators; logs = v.logs; messages = All-append (KeptMessage P c) w.messages (due_markers a ((coord_at w a).epoch + 1) k ps) h.messages (markers_kept P c a ((coord_at w a).epoch + 1) k ps); count = v.count }

kept_finished : (P : List ℕ → Type 0) (c : Config) (n : ℕ) (u : Switches) (w : World) (a : ℕ) (k : Kind) → a < application_count c → w.events < 2 ^ 31 → Kept P c n w → Kept P c (n + 1) (finished u c w a k)
kept_finished P c n u w a k l m h = kept_written P c n u w a (record { status = Complete k; epoch = (coord_at w a).epoch; partitions = [] }) l m (none_listed c) h

open_listed : (c : Config) (t : Status) (ps : List ℕ) → AreListed c ps → AreListed c (ongoing_partitions t ps)
open_listed c Empty ps h = none_listed c
open_listed c Ongoing ps h = h
open_listed c (Prepare k) ps h = none_listed c
open_listed c (Complete k) ps h = none_listed c

is_new : (t : Status) (p : ℕ) (ps : List ℕ) → (is_ongoing t && has p ps) ≡ false → has p (ongoing_partitions t ps) ≡ false
is_new Empty p ps h = refl
is_new Ongoing p ps h = h
is_new (Prepare k) p ps h = refl
is_new (Complete k) p ps h = refl

kept_partition : (P : List ℕ → Type 0) (c : Config) (n : ℕ) (u : Switches) (w : World) (a p : ℕ) → a < application_count c → w.events < 2 ^ 31 → p < log_count c → Kept P c n w → Kept P c (n + 1) (with_partition u c w a p)
kept_partition P c n u w a p l m g h =
    let x : Entry = record { status = Ongoing; epoch = (coord_at w a).epoch; partitions = listed p (ongoing_partitions (coord_at w a).status (coord_at w a).partitions) } in
    elim (is_ongoing (coord_at w a).status && has p (coord_at w a).partitions) as (λ t. (is_ongoing (coord_at w a).status && has p (coord_at w a).partitions) ≡ t → Kept P c (n + 1) (if t then w else written u c w a x)) [
      | true ↦ λ e. kept_more P c n (n + 1) w (omega arith) h
      | false ↦ λ e. kept_written P c n u w a x l m (listed_more c p (ongoing_partitions (coord_at w a).status (coord_at w a).partitions) g (is_new (coord_at w a).status p (coord_at w a).partitions e) (open_listed c (coord_at w a).status (coord_at w a).partitions (coord_kept P c n w a h))) h
    ] refl

kept_appended : (P : List ℕ → Type 0) (c : Config) (k : ℕ) (w : World) (n p : ℕ) (x : Item) → Kept P c k w → KeptItem P c x → Kept P c (k + 1) (appended w n p x)
kept_appended P c k w n p x h i = let v = kept_item P c k w p x h i in record { coordinators = v.coordinators; logs = v.logs; messages = v.messages; count = v.count }

kept_accept : (P : List ℕ → Type 0) (c : Config) (k : ℕ) (u : Switches) (w : World) (n a p : ℕ) (x : Item) → a < application_count c → w.events < 2 ^ 31 → p < log_count c → Kept P c k w → KeptItem P c x → Kept P c (k + 2) (accept u c w n a p x)
kept_accept P c k u w n a p x l m g h i =
    let s : k + 1 + 1 ≤ k + 2 = omega arith in
    kept_more P c (k + 1 + 1) (k + 2) _ s (kept_appended P c (k + 1) (with_partition u c w a p) n p x (kept_partition P c k u w a p l m g h) i)

kept_fenced : (P : List ℕ → Type 0) (c : Config) (k : ℕ) (u : Switches) (w : World) (n p : ℕ) (x : Item) → Kept P c k w → KeptItem P c x → Kept P c (k + 2) (fenced u w n p x).0
kept_fenced P c k u w n p x h i = elim u.no_fence as (λ t. Kept P c (k + 2) (if◌then◌else◌ {A = Answer} t (appended w n p x, Done (length (log_at w p))) (w, Fenced)).0) [
  | true ↦ kept_more P c (k + 1) (k + 2) _ (omega arith) (kept_appended P c k w n p x h i)
  | false ↦ kept_more P c k (k + 2) _ (omega arith) h
]

kept_marked : (P : List ℕ → Type 0) (c : Config) (n : ℕ) (u : Switches) (w : World) (a m : ℕ) (k : Kind) (p : ℕ) → a < application_count c → w.events < 2 ^ 31 → Kept P c n w → Kept P c (n + 1) (marked u c w a m k p)
kept_marked P c n u w a m k p l e h = elim u.lose_marker as (λ t. Kept P c (n + 1) (if t then w else with_item w p (marker_of u c a m k p w.events))) [
  | true ↦ kept_more P c n (n + 1) w (omega arith) h
  | false ↦ kept_item P c n w p (marker_of u c a m k p w.events) h (l, e)
]

kept_ticked : (P : List ℕ → Type 0) (c : Config) (n : ℕ) (u : Switches) (w : World) (a m : ℕ) (k : Kind) (p : ℕ) → a < application_count c → w.events < 2 ^ 31 → Kept P c n w → Kept P c (n + 1) (ticked u c w a m k p)
kept_ticked P c n u w a m k p l e h = kept_coord P c (n + 1) (marked u c w a m k p) a (ticked_off (coord_at w a) p) (kept_marked P c n u w a m k p l e h) (coord_kept P c n w a h)

-- ---- messages

abbrev KeptIf : (List ℕ → Type 0) → Config → Option Message → Type 0
KeptIf P c None = ⊤
KeptIf P c (Some x) = KeptMessage P c x

kept_at : (P : List ℕ → Type 0) (c : Config) (ms : List Message) (i : ℕ) → All (KeptMessage P c) ms → KeptIf P c (slice_get ms i)
kept_at P c [] i h = tt
kept_at P c (x ∷ ms) zero h = All-head (KeptMessage P c) x ms h
kept_at P c (x ∷ ms) (suc i) h = kept_at P c ms i (All-tail (KeptMessage P c) x ms h)

-- with an item more
finishes : (P : List ℕ → Type 0) (c : Config) (n : ℕ) (u : Switches) (w : World) (a : ℕ) (k : Kind) → a < application_count c → w.events < 2 ^ 31 → Kept P c (n + 1) w → Kept P c (n + 2) (finished u c w a k)
finishes P c n u w a k l m h = kept_more P c (n + 1 + 1) (n + 2) _ (omega arith) (kept_finished P c (n + 1) u w a k l m h)

same_events : (u : Switches) (w : World) (p : ℕ) (x : Item) → (if u.lose_marker then w else with_item w p x).events ≡ w.events
same_events u w p x = elim u.lose_marker as (λ t. (if t then w else with_item w p x).events ≡ w.events) [ true ↦ refl | false ↦ refl ]

kept_deliver : (P : List ℕ → Type 0) (c : Config) (n : ℕ) (u : Switches) (w : World) (m : ℕ) (r : Option Message) → w.events < 2 ^ 31 → Kept P c n w → NamesIf c r → KeptIf P c r → Kept P c (n + 2) (deliver u c w m r).0
kept_deliver P c n u w m None e h f i = kept_more P c n (n + 2) w (omega arith) h
kept_deliver P c n u w m (Some (messages.Output a t p s x v)) e h f i =
    let d : Kept P c (n + 2) w = kept_more P c n (n + 2) w (omega arith) h in
    let l : written_index c a p < log_count c = written_there c a p f.1 in
    let o = kept_fenced P c n u w m (written_index c a p) (Output a t s x v w.events) h (f.0, i.0, i.1, e) in
    kept_if P c (n + 2) _ _ _ o (λ f1. kept_if P c (n + 2) _ _ _ d (λ f2. kept_if P c (n + 2) _ _ _ d (λ f3. kept_if P c (n + 2) _ _ _ o (λ f4. kept_if P c (n + 2) _ _ _ d (λ f5.
    kept_accept P c n u w m a (written_index c a p) (Output a t s x v w.events) f.0 e l h (f.0, i.0, i.1, e))))))
kept_deliver P c n u w m (Some (messages.Offset a t g q v)) e h f i =
    let d : Kept P c (n + 2) w = kept_more P c n (n + 2) w (omega arith) h in
    let l : 0 < log_count c = omega arith in
    let o = kept_fenced P c n u w m 0 (Offset a t q v w.events) h (f, i, e) in
    kept_if P c (n + 2) _ _ _ d (λ f1. kept_if P c (n + 2) _ _ _ d (λ f2. kept_if P c (n + 2) _ _ _ o (λ f3. kept_if P c (n + 2) _ _ _ o (λ f4. kept_if P c (n + 2) _ _ _ d (λ f5.
    kept_accept P c n u w m a 0 (Offset a t q v w.events) f e l h (f, i, e))))))
kept_deliver P c n u w m (Some (messages.End a t k)) e h f i =
    let d : Kept P c (n + 2) w = kept_more P c n (n + 2) w (omega arith) h in
    let g = open_listed c (coord_at w a).status (coord_at w a).partitions (coord_kept P c n w a h) in
    kept_if P c (n + 2) _ _ _ d (λ f1. kept_if P c (n + 2) _ _ _ d (λ f2. kept_if P c (n + 2) _ _ _ d (λ f3. kept_if P c (n + 2) _ _ _
    (finishes P c n u (prepared u c w a k []) a k f e (kept_prepared P c n u w a k [] f e (none_listed c) h))
    (λ f4. kept_more P c (n + 1) (n + 2) _ (omega arith) (kept_prepared P c n u w a k (ongoing_partitions (coord_at w a).status (coord_at w a).partitions) f e g h)))))
kept_deliver P c n u w m (Some (messages.Marker a t k p)) e h f i =
    let d : Kept P c (n + 2) w = kept_more P c n (n + 2) w (omega arith) h in
    let s = kept_ticked P c n u w a t k p f e h in
    let z : (ticked u c w a t k p).events < 2 ^ 31 = subst (λ j. j < 2 ^ 31) (sym (same_events u w p (marker_of u c a t k p w.events))) e in
    kept_if P c (n + 2) _ _ _ d (λ f1. kept_if P c (n + 2) _ _ _ (kept_more P c (n + 1) (n + 2) _ (omega arith) (kept_marked P c n u w a t k p f e h)) (λ f2. kept_if P c (n + 2) _ _ _
    (finishes P c n u (ticked u c w a t k p) a k f z s)
    (λ f3. kept_more P c (n + 1) (n + 2) _ (omega arith) s)))

kept_writing : (P : List ℕ → Type 0) (c : Config) (n : ℕ) (u : Switches) (w : World) (r : Option Message) → w.events < 2 ^ 31 → Kept P c n w → NamesIf c r → Kept P c (n + 1) (write_marker u c w r).0
kept_writing P c n u w None e h f = kept_more P c n (n + 1) w (omega arith) h
kept_writing P c n u w (Some (messages.Output a t p s x v)) e h f = kept_more P c n (n + 1) w (omega arith) h
kept_writing P c n u w (Some (messages.Offset a t g q v)) e h f = kept_more P c n (n + 1) w (omega arith) h
kept_writing P c n u w (Some (messages.End a t k)) e h f = kept_more P c n (n + 1) w (omega arith) h
kept_writing P c n u w (Some (messages.Marker a t k p)) e h f =
    kept_if P c (n + 1) _ _ _ (kept_more P c n (n + 1) w (omega arith) h) (λ f1. kept_if P c (n + 1) _ _ _ (kept_marked P c n u w a t k p f e h) (λ f2. kept_ticked P c n u w a t k p f e h))

kept_completed : (P : List ℕ → Type 0) (c : Config) (n : ℕ) (u : Switches) (w : World) (a : ℕ) (t : Status) → a < application_count c → w.events < 2 ^ 31 → Kept P c n w → Kept P c (n + 1) (complete_prepared u c w a t).0
kept_completed P c n u w a Empty l e h = kept_more P c n (n + 1) w (omega arith) h
kept_completed P c n u w a Ongoing l e h = kept_more P c n (n + 1) w (omega arith) h
kept_completed P c n u w a (Prepare k) l e h = kept_if P c (n + 1) _ _ _ (kept_more P c n (n + 1) w (omega arith) h) (λ f. kept_finished P c n u w a k l e h)
kept_completed P c n u w a (Complete k) l e h = kept_more P c n (n + 1) w (omega arith) h

-- ---- sessions

kept_sent : (P : List ℕ → Type 0) (c : Config) (k : ℕ) (w : World) (n : ℕ) (s : Session) (x : Message) → Kept P c k w → KeptMessage P c x → Kept P c k (sent w n s x)
kept_sent P c k w n s x h i = record { coordinators = h.coordinators; logs = h.logs; messages = All-push (KeptMessage P c) w.messages x h.messages i; count = h.count }

kept_like : (P : List ℕ → Type 0) (c : Config) (k : ℕ) (w : World) (ss : List Session) (ac : List Bool) (gs : List ℕ) (n : ℕ) → Kept P c k w → Kept P c k (record { logs = w.logs; coordinators = w.coordinators; messages = w.messages; accepted = ac; sessions = ss; generations = gs; elections = w.elections; events = n })
kept_like P c k w ss ac gs n h = record { coordinators = h.coordinators; logs = h.logs; messages = h.messages; count = h.count }

kept_produce : (P : List ℕ → Type 0) (c : Config) (k : ℕ) (w : World) (n p : ℕ) (x : Option Claim) (r : Option Session) → w.events < 2 ^ 31 → (length (claimed_topic x) ≤ 249 → P (claimed_topic x)) → Kept P c k w → Kept P c k (produce c w n p x r).0
kept_produce P c k w n p x None e t h = h
kept_produce P c k w n p x (Some s) e t h =
    kept_if P c k _ _ _ h (λ f1.
    let l : length (claimed_topic x) ≤ 249 = not_lt 249 (length (claimed_topic x)) (or_parts (not (nat_lt p c.outputs)) (nat_lt 249 (length (claimed_topic x))) f1).1 in
    kept_if P c k _ _ _ h (λ f2. kept_sent P c k w n (after_output s p (length w.messages)) (messages.Output s.application s.epoch p (sequence_of s p) x w.events) h (t l, e)))

kept_offset : (P : List ℕ → Type 0) (c : Config) (k : ℕ) (w : World) (n q : ℕ) (v : Option ℕ) (r : Option Session) → Kept P c k w → Kept P c k (commit_offset c w n q v r).0
kept_offset P c k w n q v None h = h
kept_offset P c k w n q v (Some s) h = kept_if P c k _ _ _ h (λ f1. kept_if P c k _ _ _ h (λ f2.
    kept_sent P c k w n (after_offset s (length w.messages)) (messages.Offset s.application s.epoch s.generation q v) h (source_there c s.application q (not_false _ f1))))

kept_commit : (P : List ℕ → Type 0) (c : Config) (k : ℕ) (w : World) (n q : ℕ) (v : Option ℤ) → Kept P c k w → Kept P c k (commit c w n q v).0
kept_commit P c k w n q None h = kept_offset P c k w n q None (slice_get w.sessions n) h
kept_commit P c k w n q (Some (pos v)) h = kept_offset P c k w n q (Some v) (slice_get w.sessions n) h
kept_commit P c k w n q (Some (negsuc v)) h = h

kept_end : (P : List ℕ → Type 0) (c : Config) (m : ℕ) (w : World) (n : ℕ) (k : Kind) (r : Option Session) → Kept P c m w → Kept P c m (end_session w n k r).0
kept_end P c m w n k None h = h
kept_end P c m w n k (Some s) h = kept_if P c m _ _ _ h (λ f1. kept_sent P c m w n (after_end s k) (messages.End s.application s.epoch k) h tt)

kept_ended : (P : List ℕ → Type 0) (c : Config) (m : ℕ) (w : World) (n : ℕ) (s : Session) (r : Option Kind) → Kept P c m w → Kept P c m (resume_ended c w n s r).0
kept_ended P c m w n s None h = h
kept_ended P c m w n s (Some k) h = kept_if P c m _ _ _ h (λ f1. kept_if P c m _ _ _ h (λ f2. kept_if P c m _ _ _ h (λ f3. kept_like P c m w _ _ _ _ h)))

kept_resume : (P : List ℕ → Type 0) (c : Config) (m : ℕ) (w : World) (n : ℕ) (r : Option Session) → Kept P c m w → Kept P c m (resume c w n r).0
kept_resume P c m w n None h = h
kept_resume P c m w n (Some s) h = kept_ended P c m w n s s.ending h

kept_fetch : (P : List ℕ → Type 0) (c : Config) (m : ℕ) (w : World) (q : ℕ) (r : Option Session) → Kept P c m w → Kept P c m (fetch c w q r).0
kept_fetch P c m w q None h = h
kept_fetch P c m w q (Some s) h = kept_if P c m _ _ _ h (λ f1. kept_if P c m _ _ _ h (λ f2. kept_if P c m _ _ _ h (λ f3. h)))

kept_session : (P : List ℕ → Type 0) (c : Config) (n : ℕ) (u : Switches) (w : World) (a e : ℕ) → a < application_count c → w.events < 2 ^ 31 → Kept P c n w → Kept P c (n + 1) (start_session u c w a e).0
kept_session P c n u w a e l m h =
    kept_if P c (n + 1) _ _ _ (kept_more P c n (n + 1) w (omega arith) h) (λ f.
    kept_like P c (n + 1) (written u c w a (record { status = Empty; epoch = e; partitions = [] })) _ _ _ _ (kept_written P c n u w a (record { status = Empty; epoch = e; partitions = [] }) l m (none_listed c) h))

kept_start : (P : List ℕ → Type 0) (c : Config) (n : ℕ) (u : Switches) (w : World) (a : ℕ) → w.events < 2 ^ 31 → Kept P c n w → Kept P c (n + 1) (start u c w a).0
kept_start P c n u w a m h =
    let d = kept_more P c n (n + 1) w (omega arith) h in
    kept_if P c (n + 1) _ _ _ d (λ f1.
    let l : a < application_count c = is_lt a (application_count c) (not_false _ f1) in
    kept_if P c (n + 1) _ _ _ d (λ f2. kept_if P c (n + 1) _ _ _ (kept_prepared P c n u w a Abort (coord_at w a).partitions l m (coord_kept P c n w a h) h) (λ f3.
    kept_session P c n u w a _ l m h)))

kept_added : (P : List ℕ → Type 0) (c : Config) (n : ℕ) (u : Switches) (w : World) (p : Option ℕ) (r : Option Session) → w.events < 2 ^ 31 → Kept P c n w → OneIf c r → Kept P c (n + 1) (add_partition u c w p r).0
kept_added P c n u w p None m h o = kept_more P c n (n + 1) w (omega arith) h
kept_added P c n u w p (Some s) m h o =
    let d = kept_more P c n (n + 1) w (omega arith) h in
    kept_if P c (n + 1) _ _ _ d (λ f1. kept_if P c (n + 1) _ _ _ d (λ f2. kept_if P c (n + 1) _ _ _ d (λ f3. kept_if P c (n + 1) _ _ _ d (λ f4.
    kept_partition P c n u w s.application (target_index c s.application p) o m (target_there c s.application p (not_false _ f1)) h))))

-- ---- the coordinator restarts

last_kept : (P : List ℕ → Type 0) (c : Config) (s : Coordinator) (a : ℕ) (log : List Item) → AreListed c s.partitions → All (KeptItem P c) log → AreListed c (last_state s (entries_of a log)).partitions
last_kept P c s a [] e h = e
last_kept P c s a (Fed m ∷ xs) e h = last_kept P c s a xs e (All-tail (KeptItem P c) (Fed m) xs h)
last_kept P c s a (Output b f q x v m ∷ xs) e h = last_kept P c s a xs e (All-tail (KeptItem P c) (Output b f q x v m) xs h)
last_kept P c s a (Offset b f q v m ∷ xs) e h = last_kept P c s a xs e (All-tail (KeptItem P c) (Offset b f q v m) xs h)
last_kept P c s a (Marker b f k m ∷ xs) e h = last_kept P c s a xs e (All-tail (KeptItem P c) (Marker b f k m) xs h)
last_kept P c s a (State b x m ∷ xs) e h =
    elim (b == a) as (λ t. AreListed c (last_state s (cons_option (if t then Some x else None) (entries_of a xs))).partitions) [
      | true ↦ last_kept P c (state_of x) a xs (All-head (KeptItem P c) (State b x m) xs h).1 (All-tail (KeptItem P c) (State b x m) xs h)
      | false ↦ last_kept P c s a xs e (All-tail (KeptItem P c) (State b x m) xs h)
    ]

all_of_each : (P : Coordinator → Type 0) (f : ℕ → Coordinator) (ks : List ℕ) → ((k : ℕ) → P (f k)) → All P (map f ks)
all_of_each P f [] h = All-nil P
all_of_each P f (k ∷ ks) h = All-cons P (f k) (map f ks) (h k) (all_of_each P f ks h)

all_flat : (P : Message → Type 0) (f : ℕ → List Message) (ks : List ℕ) → ((k : ℕ) → All P (f k)) → All P (flat_map f ks)
all_flat P f [] h = All-nil P
all_flat P f (k ∷ ks) h = All-append P (f k) (flat_map f ks) (h k) (all_flat P f ks h)

due_kept : (P : List ℕ → Type 0) (c : Config) (a : ℕ) (t : Status) (e : ℕ) (ps : List ℕ) → All (KeptMessage P c) (due_again t a e ps)
due_kept P c a Empty e ps = All-nil (KeptMessage P c)
due_kept P c a Ongoing e ps = All-nil (KeptMessage P c)
due_kept P c a (Complete k) e ps = All-nil (KeptMessage P c)
due_kept P c a (Prepare k) e ps = markers_kept P c a e k ps

total_less : (ls : List (List Item)) (p k : ℕ) → total (slice_set ls p (take k (slice_index_or ls p []))) ≤ total ls
total_less [] p k = omega arith
total_less (l ∷ ls) zero k = let e = length-take k l in omega (arith, e)
total_less (l ∷ ls) (suc p) k = let e = total_less ls p k in omega (arith, e)

kept_elected : (P : List ℕ → Type 0) (c : Config) (n : ℕ) (w : World) (k : ℕ) (r : Option ℕ) → Kept P c n w → Kept P c n (elect w k r).0
kept_elected P c n w k None h = h
kept_elected P c n w k (Some p) h = kept_if P c n _ _ _ h (λ f1. kept_if P c n _ _ _ h (λ f2. record {
  coordinators = h.coordinators;
  logs = All-set (All (KeptItem P c)) w.logs p (take k (log_at w p)) (All-take (KeptItem P c) k (log_at w p) (log_kept P c n w p h)) h.logs;
  messages = h.messages;
  count = let m = total_less w.logs p k in omega (arith, m, h.count);
}))

-- ---- any event, and any list

pub kept_event : (P : List ℕ → Type 0) (c : Config) (k : ℕ) (u : Switches) (w : World) (e : Event) → w.events < 2 ^ 31 → IsFormed c w → TopicIs P e → Kept P c k w → Kept P c (k + 2) (happens_under u c w e).0
kept_event P c k u w (events.Feed p) n f t h =
    kept_if P c (k + 2) _ _ _ (kept_more P c k (k + 2) w (omega arith) h) (λ f1. kept_more P c (k + 1) (k + 2) _ (omega arith) (kept_item P c k w (input_index c p) (Fed w.events) h n))
kept_event P c k u w (events.Start a) n f t h = kept_more P c (k + 1) (k + 2) _ (omega arith) (kept_start P c k u w a n h)
kept_event P c k u w (events.Produce m p x) n f t h = kept_more P c k (k + 2) _ (omega arith) (kept_produce P c k w m p x (slice_get w.sessions m) n t h)
kept_event P c k u w (events.Commit m q v) n f t h = kept_more P c k (k + 2) _ (omega arith) (kept_commit P c k w m q v h)
kept_event P c k u w (events.End m i) n f t h = kept_more P c k (k + 2) _ (omega arith) (kept_end P c k w m i (slice_get w.sessions m) h)
kept_event P c k u w (events.Resume m) n f t h = kept_more P c k (k + 2) _ (omega arith) (kept_resume P c k w m (slice_get w.sessions m) h)
kept_event P c k u w (events.Fetch m q) n f t h = kept_more P c k (k + 2) _ (omega arith) (kept_fetch P c k w q (slice_get w.sessions m) h)
kept_event P c k u w (events.Members g) n f t h = let d = kept_more P c k (k + 2) w (omega arith) h in kept_if P c (k + 2) _ _ _ d (λ f1. kept_like P c (k + 2) w _ _ _ _ d)
kept_event P c k u w (events.BrokerRestart s p) n f t h = let d = kept_more P c k (k + 2) w (omega arith) h in kept_if P c (k + 2) _ _ _ d (λ f1. d)
kept_event P c k u w events.CoordinatorRestart n f t h = record {
  coordinators = all_of_each (λ s. AreListed c s.partitions) (reread c w) (range_with_len 0 (length w.coordinators)) (λ a. last_kept P c fresh a (log_at w (txn_index c a)) (none_listed c) (log_kept P c k w (txn_index c a) h));
  logs = h.logs;
  messages = All-append (KeptMessage P c) w.messages (flat_map (queued_again c w) (range_with_len 0 (length w.coordinators))) h.messages
      (all_flat (KeptMessage P c) (queued_again c w) (range_with_len 0 (length w.coordinators)) (λ a. due_kept P c a (reread c w a).status (reread c w a).epoch (reread c w a).partitions));
  count = omega (arith, h.count);
}
kept_event P c k u w (events.Deliver m) n f t h = kept_deliver P c k u w m (slice_get w.messages m) n h (message_at c w.messages m f.messages) (kept_at P c w.messages m h.messages)
kept_event P c k u w (events.TimeOut a) n f t h =
    let d = kept_more P c k (k + 2) w (omega arith) h in
    kept_if P c (k + 2) _ _ _ d (λ f1.
    let l : a < application_count c = is_lt a (application_count c) (not_false _ f1) in
    kept_if P c (k + 2) _ _ _ d (λ f2. kept_deliver P c k u w 0 (Some (messages.End a (coord_at w a).epoch Abort)) n h l tt))
kept_event P c k u w (events.AddPartition m p) n f t h =
    kept_more P c (k + 1) (k + 2) _ (omega arith) (kept_added P c k u w p (slice_get w.sessions m) n h (session_at c w.sessions m f.sessions))
kept_event P c k u w (events.WriteMarker m) n f t h = kept_more P c (k + 1) (k + 2) _ (omega arith) (kept_writing P c k u w (slice_get w.messages m) n h (message_at c w.messages m f.messages))
kept_event P c k u w (events.Complete a) n f t h =
    kept_if P c (k + 2) _ _ _ (kept_more P c k (k + 2) w (omega arith) h) (λ f1.
    kept_more P c (k + 1) (k + 2) _ (omega arith) (kept_completed P c k u w a (coord_at w a).status (is_lt a (application_count c) (not_false _ f1)) n h))
kept_event P c k u w (events.Elect s p i) n f t h = kept_more P c k (k + 2) _ (omega arith) (kept_elected P c k w i (electable_at c s p) h)
