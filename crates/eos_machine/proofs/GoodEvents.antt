-- Each event keeps a cluster good.
use Rattle.std.proofs.Common.{◌⊎◌, ◌≡◌, ℕ, ℤ, pos, negsuc, zero, suc, ◌+◌, ◌-◌, ◌<◌, ◌≤◌, ◌==◌, not, ◌&&◌, ◌||◌, Bool, true, false, List, [], ◌∷◌, ◌++◌, length, map, take, slice_set, Option, Some, None, refl, sym, ap, subst, arith, ◌∙◌, inl, inr, if◌then◌else◌}
use Rattle.std.specs.Prelude.{nat_lt, slice_get, ⊤}
use Rattle.std.specs.List.{All, Contains, list_any, flat_map, range_with_len}
use Rattle.std.proofs.lemmas.List.{get_or-map, get_or_past, length-map, set-get_or, take_all}
use Rattle.std.proofs.lemmas.List.FromFn.{length-range_with_len, get_or-range_with_len}
use Rattle.std.proofs.lemmas.List.Elements.{All-nil, All-cons, All-contains, All-head, All-tail, All-weaker, All-push, All-append, All-map, All-set, All-contains_itself}
use Rattle.std.proofs.lemmas.Bool.{and_parts, or_parts, eqb-true, cases_lt}
use Rattle.std.proofs.Math.Nat.{mod-lt}
use Rattle.eos_batch.specs.declared.marker.Kind.{Kind}
use Rattle.eos_batch.specs.declared.marker.Kind.TheVariants.{Commit, Abort}
use Rattle.eos_touch.specs.Pair.{same_kind}
use Rattle.std.proofs.lemmas.List.{length-set}
use Rattle.eos_machine.specs.LogIndexes.{Config, application_count, IsConfig, offsets_index, txn_index, input_index, written_index, target_index, is_sequenced, same_topic, listed}
use Rattle.eos_machine.specs.Switching.{none}
use Rattle.eos_machine.specs.World.{Claim, Status, Empty, Ongoing, Prepare, Complete, Entry, Item, State, Output, Offset, Marker, Coordinator, Session, Message, World, Election, Event, log_at, fresh, coord_at, generation_of, state_of, with_item, with_coord, written, due_markers, prepared, finished}
use Rattle.eos_machine.specs.declared.state.Message.TheVariants as messages
use Rattle.eos_machine.specs.declared.event.Event.TheVariants as events
use Rattle.eos_machine.specs.Application.{Mark, Batch, End, Decision, IsOrdered}
use Rattle.eos_machine.specs.Logs.{mark_in, entries_of, marks_of, last_state, producer_at, next_sequence, not_above, unseen}
use Rattle.eos_machine.specs.Tests.{is_ongoing, is_prepare, has, is_nil, is_commit, is_current, waits_for, ongoing_partitions}
use Rattle.eos_machine.specs.Answers.{Answer, when}
use Rattle.eos_machine.specs.Sessions.{claimed_topic, new_session, after_output, after_offset, after_end, after_resume, sent, produce, commit_offset, commit, end_session, resume_ended, resume, fetch}
use Rattle.eos_machine.specs.Deliveries.{with_partition, accept, deliver_output, deliver_offset, deliver_end, without, ticked_off, append_marker, deliver_marker, deliver, write_marker, complete_prepared}
use Rattle.eos_machine.specs.Elections.{electable_at, election_of, elected, elect, LosesNothing}
use Rattle.eos_machine.specs.Machine.{feed, start_session, start, reread, due_again, queued_again, restarted, add_partition, counted, step, world_after}
use Rattle.eos_machine.specs.steps.Machine.{happens}
use Rattle.eos_machine.specs.Rest.{decisions_of}
use Rattle.eos_machine.proofs.Apps.{App, waited, MayBeOpen, Orders, Invariant}
use Rattle.eos_machine.proofs.AppSteps.{IsUnder, IsSettled, Grows, IsCurrent, begun_keeps, joined_keeps, appended_keeps, decided_keeps, marked_keeps, ticked_keeps, completed_keeps, waited_keeps}
use Rattle.eos_machine.proofs.Good.{app_of, Moves, IsPlace, IsDue, IsRead, IsKept, IsOfOne, Good}
use Rattle.eos_machine.proofs.Worlds.{IsOf, of_output, of_offset, of_marker, good_item, good_fed, good_coord, good_written, coord_itself, app_written, after_entry, with_state, view_none, app_pushed, app_is}
use Rattle.eos_machine.proofs.Written.{written_there, target_there}
use Rattle.eos_machine.proofs.Lossless.{lossless_before}
use Rattle.eos_machine.proofs.Members.{contains_none, contains_cases, contains_head, contains_tail}
use Rattle.eos_machine.proofs.Brokers.{IsNumbered, Broker, not_lt, is_lt, above, producer_push, under, broker_batch, broker_end}

-- ---- tests

good_if : (c : Config) (t : Bool) (x y : Answer) → (t ≡ true → Good c x.0) → (t ≡ false → Good c y.0) → Good c (when t x y).0
unfolding when
good_if c true x y f g = f refl
good_if c false x y f g = g refl

not_false : (b : Bool) → not b ≡ false → b ≡ true
not_false true h = refl
not_false false h = absurd cc

has_contains : (p : ℕ) (ps : List ℕ) → has p ps ≡ true → Contains ps p
has_contains p [] h = absurd cc
has_contains p (q ∷ ps) h =
    elim (q == p) as (λ b. (q == p) ≡ b → (b || has p ps) ≡ true → Contains (q ∷ ps) p) [
      | true ↦ λ e w. (0, omega arith, eqb-true q p e)
      | false ↦ λ e w. let r = has_contains p ps w in (suc r.0, omega (arith, r.1), r.2)
    ] refl h

ongoing_is : (s : Status) → is_ongoing s ≡ true → s ≡ Ongoing
ongoing_is Empty h = absurd cc
ongoing_is Ongoing h = refl
ongoing_is (Prepare k) h = absurd cc
ongoing_is (Complete k) h = absurd cc

pub settled : (s : Status) → is_ongoing s ≡ false → is_prepare s ≡ false → IsSettled s
settled Empty o p = tt
settled Ongoing o p = absurd cc
settled (Prepare k) o p = absurd cc
settled (Complete k) o p = tt

grows_ongoing : (s : Status) (ps : List ℕ) → is_prepare s ≡ false → Grows s ps (ongoing_partitions s ps)
grows_ongoing Empty ps h = tt
grows_ongoing Ongoing ps h = λ p w. w
grows_ongoing (Prepare k) ps h = absurd cc
grows_ongoing (Complete k) ps h = tt

listed_keeps : (p : ℕ) (qs : List ℕ) (q : ℕ) → Contains qs q → Contains (listed p qs) q
listed_keeps p [] q h = absurd (contains_none q h)
listed_keeps p (y ∷ qs) q h =
    elim (same_topic p y && not (list_any (same_topic p) qs)) as (λ b. Contains (if b then y ∷ (p ∷ qs) else y ∷ listed p qs) q) [
      | true ↦ elim (contains_cases y q qs h) [ inl e ↦ subst (λ (z : ℕ). Contains (z ∷ (p ∷ qs)) q) (sym e) (contains_head q (p ∷ qs)) | inr r ↦ contains_tail y q (p ∷ qs) (contains_tail p q qs r) ]
      | false ↦ elim (contains_cases y q qs h) [ inl e ↦ subst (λ (z : ℕ). Contains (z ∷ listed p qs) q) (sym e) (contains_head q (listed p qs)) | inr r ↦ contains_tail y q (listed p qs) (listed_keeps p qs q r) ]
    ]

listed_itself : (p : ℕ) (qs : List ℕ) → Contains (listed p qs) p
listed_itself p [] = contains_head p []
listed_itself p (y ∷ qs) =
    elim (same_topic p y && not (list_any (same_topic p) qs)) as (λ b. Contains (if b then y ∷ (p ∷ qs) else y ∷ listed p qs) p) [
      | true ↦ contains_tail y p (p ∷ qs) (contains_head p qs)
      | false ↦ contains_tail y p (listed p qs) (listed_itself p qs)
    ]

all_listed : (P : ℕ → Type 0) (p : ℕ) (qs : List ℕ) → P p → All P qs → All P (listed p qs)
all_listed P p [] h a = All-cons P p [] h a
all_listed P p (y ∷ qs) h a =
    elim (same_topic p y && not (list_any (same_topic p) qs)) as (λ b. All P (if b then y ∷ (p ∷ qs) else y ∷ listed p qs)) [
      | true ↦ All-cons P y (p ∷ qs) (All-head P y qs a) (All-cons P p qs h (All-tail P y qs a))
      | false ↦ All-cons P y (listed p qs) (All-head P y qs a) (all_listed P p qs h (All-tail P y qs a))
    ]

all_ongoing : (P : ℕ → Type 0) (s : Status) (ps : List ℕ) → All P ps → All P (ongoing_partitions s ps)
all_ongoing P Empty ps h = All-nil P
all_ongoing P Ongoing ps h = h
all_ongoing P (Prepare k) ps h = All-nil P
all_ongoing P (Complete k) ps h = All-nil P

grows_more : (s : Status) (ps : List ℕ) (p : ℕ) → is_prepare s ≡ false → Grows s ps (listed p (ongoing_partitions s ps))
grows_more Empty ps p h = tt
grows_more Ongoing ps p h = λ q w. listed_keeps p ps q w
grows_more (Prepare k) ps p h = absurd cc
grows_more (Complete k) ps p h = tt

nil_is : (ps : List ℕ) → is_nil ps ≡ true → ps ≡ []
nil_is [] h = refl
nil_is (p ∷ ps) h = absurd cc

kind_is : (k l : Kind) → same_kind k l ≡ true → k ≡ l
kind_is Commit Commit h = refl
kind_is Commit Abort h = absurd cc
kind_is Abort Commit h = absurd cc
kind_is Abort Abort h = refl

waited_is : (s : Status) (now m : ℕ) (k : Kind) → waits_for s now m k ≡ true → IsCurrent s now m k × (s ≡ Prepare k)
waited_is Empty now m k h = absurd cc
waited_is Ongoing now m k h = absurd cc
waited_is (Complete l) now m k h = absurd cc
waited_is (Prepare l) now m k h =
    let a = and_parts (m == now) (same_kind k l) h in
    let e : k ≡ l = kind_is k l a.1 in
    ((eqb-true m now a.0, e), sym (ap Prepare e))

pub record InRange (c : Config) (w : World) (a p : ℕ) : Type 0 where
  pub app : a < length w.coordinators
  pub txn : txn_index c a < length w.logs
  pub part : p < length w.logs

ranges : (c : Config) (w : World) (a p : ℕ) → IsConfig c → Good c w → a < application_count c → IsPlace c p → InRange c w a p
ranges c w a p i g la lp =
    let m = mod-lt a {m = c.transaction_logs} (omega (arith, i.transaction_logs.0)) in
    record { app = omega (arith, la, g.coordinators); txn = omega (arith, m, g.logs); part = omega (arith, lp, g.logs) }

range_item : (c : Config) (w : World) (a p q : ℕ) (x : Item) → InRange c w a p → InRange c (with_item w q x) a p
range_item c w a p q x r =
    let e : length (with_item w q x).logs ≡ length w.logs = length-set w.logs q (log_at w q ++ x ∷ []) in
    record { app = r.app; txn = omega (arith, r.txn, e); part = omega (arith, r.part, e) }

range_coord : (c : Config) (w : World) (a p b : ℕ) (s : Coordinator) → InRange c w a p → InRange c (with_coord w b s) a p
range_coord c w a p b s r =
    let e : length (with_coord w b s).coordinators ≡ length w.coordinators = length-set w.coordinators b s in
    record { app = omega (arith, r.app, e); txn = r.txn; part = r.part }

range_written : (c : Config) (w : World) (a p : ℕ) (x : Entry) → InRange c w a p → InRange c (written none c w a x) a p
range_written c w a p x r = range_coord c (with_item w (txn_index c a) (State a x w.events)) a p a (state_of x) (range_item c w a p (txn_index c a) (State a x w.events) r)

-- ---- what isn't of logs and states

-- other messages, sessions and numbers
abbrev pub like : World → List Message → List Bool → List Session → List ℕ → ℕ → World
like w ms ac ss gs n = record { logs = w.logs; coordinators = w.coordinators; messages = ms; accepted = ac; sessions = ss; generations = gs; elections = w.elections; events = n }

due_like : (c : Config) (w : World) (ms : List Message) (ac : List Bool) (ss : List Session) (gs : List ℕ) (n : ℕ) (x : Message) → IsDue c w x → IsDue c (like w ms ac ss gs n) x
due_like c w ms ac ss gs n (messages.Output a f p s x v) h = h
due_like c w ms ac ss gs n (messages.Offset a f y q v) h = h
due_like c w ms ac ss gs n (messages.End a f k) h = h
due_like c w ms ac ss gs n (messages.Marker a m k p) h = h

pub good_like : (c : Config) (w : World) (ms : List Message) (ac : List Bool) (ss : List Session) (gs : List ℕ) (n : ℕ) → Good c w → All (IsDue c w) ms → All (IsOfOne c) ss → Good c (like w ms ac ss gs n)
good_like c w ms ac ss y n g d o = record {
  apps = g.apps;
  brokers = g.brokers;
  due = All-weaker (IsDue c w) (IsDue c (like w ms ac ss y n)) (due_like c w ms ac ss y n) ms d;
  read = g.read;
  steps = g.steps;
  places = g.places;
  sessions = o;
  coordinators = g.coordinators;
  logs = g.logs;
}

-- ---- decisions

moves_complete : (b : Bool) (t : Status) (e : ℕ) (k : Kind) → b ≡ true → t ≡ Prepare k → Moves b t e (Complete k) e
moves_complete b t e k p q = subst (λ (z : Bool). Moves z t e (Complete k) e) (sym p) (subst (λ (u : Status). Moves true u e (Complete k) e) (sym q) refl)

moves_ongoing : (b : Bool) (t : Status) (e : ℕ) → b ≡ true → is_prepare t ≡ false → Moves b t e Ongoing e
moves_ongoing false t e p n = absurd cc
moves_ongoing true Empty e p n = tt
moves_ongoing true Ongoing e p n = refl
moves_ongoing true (Prepare k) e p n = absurd cc
moves_ongoing true (Complete k) e p n = tt

moves_empty : (b : Bool) (t : Status) (e f : ℕ) → IsSettled t → Moves b t e Empty f
moves_empty false t e f i = tt
moves_empty true Empty e f i = tt
moves_empty true Ongoing e f i = i
moves_empty true (Prepare k) e f i = i
moves_empty true (Complete k) e f i = tt

moves_prepare : (b : Bool) (t : Status) (e : ℕ) (k : Kind) → b ≡ true → is_prepare t ≡ false → (is_commit k && not (is_ongoing t)) ≡ false → Moves b t e (Prepare k) (e + 1)
moves_prepare false t e k p n h = absurd cc
moves_prepare true Ongoing e k p n h = omega arith
moves_prepare true Empty e Abort p n h = (refl, omega arith)
moves_prepare true Empty e Commit p n h = absurd cc
moves_prepare true (Complete l) e Abort p n h = (refl, omega arith)
moves_prepare true (Complete l) e Commit p n h = absurd cc
moves_prepare true (Prepare l) e k p n h = absurd cc

-- a state that has begun, or nothing
began_read : (s : Coordinator) (xs : List Entry) → (s.started ≡ true) ⊎ (s ≡ fresh) → ((last_state s xs).started ≡ true) ⊎ (last_state s xs ≡ fresh)
began_read s [] h = h
began_read s (x ∷ xs) h = began_read (state_of x) xs (inl refl)

pub record IsFresh (s : Coordinator) : Type 0 where
  pub status : s.status ≡ Empty
  pub epoch : s.epoch ≡ 0

began : (c : Config) (w : World) (a : ℕ) → Good c w → ((coord_at w a).started ≡ true) ⊎ IsFresh (coord_at w a)
began c w a g = elim (began_read fresh (entries_of a (log_at w (txn_index c a))) (inr refl)) [
  | inl l ↦ inl ((g.read a).started ∙ l)
  | inr r ↦ inr (record { status = (g.read a).status ∙ ap (λ (s : Coordinator). s.status) r; epoch = (g.read a).epoch ∙ ap (λ (s : Coordinator). s.epoch) r })
]

began_prepare : (c : Config) (w : World) (a : ℕ) (k : Kind) → Good c w → (coord_at w a).status ≡ Prepare k → (coord_at w a).started ≡ true
began_prepare c w a k g q = elim (began c w a g) [
  | inl l ↦ l
  | inr r ↦ absurd (let z : Empty ≡ Prepare k = sym r.status ∙ q in cc)
]

began_ongoing : (c : Config) (w : World) (a : ℕ) → Good c w → is_ongoing (coord_at w a).status ≡ true → (coord_at w a).started ≡ true
began_ongoing c w a g q = elim (began c w a g) [
  | inl l ↦ l
  | inr r ↦ absurd (let z : Empty ≡ Ongoing = sym r.status ∙ ongoing_is (coord_at w a).status q in cc)
]

all_here : (P : ℕ → Type 0) (ps : List ℕ) → All P ps → (q : ℕ) → Contains ps q → P q
all_here P ps h q i = All-contains P ps q h i

good_prepared : (c : Config) (w : World) (a p : ℕ) (k : Kind) (ps : List ℕ) → Good c w → InRange c w a p → All (IsPlace c) ps → Grows (coord_at w a).status (coord_at w a).partitions ps → Moves (coord_at w a).started (coord_at w a).status (coord_at w a).epoch (Prepare k) ((coord_at w a).epoch + 1) → Good c (prepared none c w a k ps)
good_prepared c w a p k ps g r here grows mv =
    let x : Entry = record { status = Prepare k; epoch = (coord_at w a).epoch + 1; partitions = ps } in
    let inv : Invariant (after_entry c w a x) = decided_keeps (app_of c w a) k ps (g.apps a) grows in
    let h : Good c (written none c w a x) = good_written c w a x g r.app r.txn here inv mv in
    let e = app_written c w a x r.app r.txn (g.read a) in
    let la : a < application_count c = omega (arith, r.app, g.coordinators) in
    let one : (q : ℕ) → Contains ps q → IsDue c (written none c w a x) (messages.Marker a ((coord_at w a).epoch + 1) k q) = λ q i. (la, all_here (IsPlace c) ps here q i, subst (λ (s : App). IsOrdered s.decisions q ((coord_at w a).epoch + 1) k) (sym e) (inv.orders q i)) in
    good_like c (written none c w a x) (w.messages ++ due_markers a ((coord_at w a).epoch + 1) k ps) _ w.sessions w.generations w.events h
    (All-append (IsDue c (written none c w a x)) w.messages (due_markers a ((coord_at w a).epoch + 1) k ps) h.due
    (All-map (IsDue c (written none c w a x)) (messages.Marker a ((coord_at w a).epoch + 1) k) ps (All-weaker (Contains ps) (λ q. IsDue c (written none c w a x) (messages.Marker a ((coord_at w a).epoch + 1) k q)) one ps (All-contains_itself ps))))
    g.sessions

-- the last marker has come, or there was none
good_finished : (c : Config) (w : World) (a p : ℕ) (k : Kind) → Good c w → InRange c w a p → (coord_at w a).status ≡ Prepare k → (coord_at w a).awaited ≡ [] → (coord_at w a).started ≡ true → Good c (finished none c w a k)
good_finished c w a p k g r s n st =
    good_written c w a (record { status = Complete k; epoch = (coord_at w a).epoch; partitions = [] }) g r.app r.txn (All-nil (IsPlace c)) (completed_keeps (app_of c w a) k (g.apps a) s n) (moves_complete (coord_at w a).started (coord_at w a).status (coord_at w a).epoch k st s)

range_prepared : (c : Config) (w : World) (a p : ℕ) (k : Kind) (ps : List ℕ) → InRange c w a p → InRange c (prepared none c w a k ps) a p
range_prepared c w a p k ps r =
    let q = range_written c w a p (record { status = Prepare k; epoch = (coord_at w a).epoch + 1; partitions = ps }) r in
    record { app = q.app; txn = q.txn; part = q.part }

-- ---- data

good_partition : (c : Config) (w : World) (a p : ℕ) → Good c w → InRange c w a p → IsPlace c p → is_prepare (coord_at w a).status ≡ false → (coord_at w a).started ≡ true → Good c (with_partition none c w a p)
good_partition c w a p g r lp n st =
    let ps : List ℕ = listed p (ongoing_partitions (coord_at w a).status (coord_at w a).partitions) in
    elim (is_ongoing (coord_at w a).status && has p (coord_at w a).partitions) as (λ b. Good c (if b then w else written none c w a (record { status = Ongoing; epoch = (coord_at w a).epoch; partitions = listed p (ongoing_partitions (coord_at w a).status (coord_at w a).partitions) }))) [
      | true ↦ g
      | false ↦ good_written c w a (record { status = Ongoing; epoch = (coord_at w a).epoch; partitions = listed p (ongoing_partitions (coord_at w a).status (coord_at w a).partitions) }) g r.app r.txn
          (all_listed (IsPlace c) p (ongoing_partitions (coord_at w a).status (coord_at w a).partitions) lp (all_ongoing (IsPlace c) (coord_at w a).status (coord_at w a).partitions (g.places a)))
          (joined_keeps (app_of c w a) (listed p (ongoing_partitions (coord_at w a).status (coord_at w a).partitions)) (g.apps a) (grows_more (coord_at w a).status (coord_at w a).partitions p n)) (moves_ongoing (coord_at w a).started (coord_at w a).status (coord_at w a).epoch st n)
    ]

open_if : (s : Status) (now : ℕ) (partitions awaited : List ℕ) (p e : ℕ) → s ≡ Ongoing → e ≡ now → Contains partitions p → MayBeOpen s now partitions awaited p e
open_if Empty now partitions awaited p e s q h = absurd cc
open_if Ongoing now partitions awaited p e s q h = (q, h)
open_if (Prepare k) now partitions awaited p e s q h = absurd cc
open_if (Complete k) now partitions awaited p e s q h = absurd cc

-- data may be appended
pub record Joined (c : Config) (v : World) (a p e : ℕ) (ts : List Mark) : Type 0 where
  pub there : MayBeOpen (coord_at v a).status (coord_at v a).epoch (coord_at v a).partitions (coord_at v a).awaited p e
  pub marks : marks_of a (log_at v p) ≡ ts
  pub range : InRange c v a p

joined : (c : Config) (w : World) (a p e : ℕ) → InRange c w a p → (coord_at w a).epoch ≡ e → Joined c (with_partition none c w a p) a p e (marks_of a (log_at w p))
joined c w a p e r q =
    let x : Entry = record { status = Ongoing; epoch = (coord_at w a).epoch; partitions = listed p (ongoing_partitions (coord_at w a).status (coord_at w a).partitions) } in
    elim (is_ongoing (coord_at w a).status && has p (coord_at w a).partitions) as (λ b. (is_ongoing (coord_at w a).status && has p (coord_at w a).partitions) ≡ b → Joined c (if b then w else written none c w a x) a p e (marks_of a (log_at w p))) [
      | true ↦ λ t.
          let h = and_parts (is_ongoing (coord_at w a).status) (has p (coord_at w a).partitions) t in
          record { there = open_if (coord_at w a).status (coord_at w a).epoch (coord_at w a).partitions (coord_at w a).awaited p e (ongoing_is (coord_at w a).status h.0) (sym q) (has_contains p (coord_at w a).partitions h.1); marks = refl; range = r }
      | false ↦ λ t.
          let s : coord_at (written none c w a x) a ≡ state_of x = coord_itself (with_item w (txn_index c a) (State a x w.events)) a (state_of x) r.app in
          record {
            there = subst (λ (v : Coordinator). MayBeOpen v.status v.epoch v.partitions v.awaited p e) (sym s) (sym q, listed_itself p (ongoing_partitions (coord_at w a).status (coord_at w a).partitions));
            marks = view_none (mark_in a) w (txn_index c a) (State a x w.events) refl r.txn p;
            range = range_written c w a p x r;
          }
    ] refl

kept_batch : (c : Config) (w : World) (a p e : ℕ) (q : Option ℕ) → Good c w → nat_lt e (producer_at w a p).high ≡ false → IsNumbered (is_sequenced c p) q (next_sequence (producer_at w a p) e) → IsKept c p (marks_of a (log_at w p) ++ Batch e q ∷ [])
kept_batch c w a p e q g f n =
    subst (Broker (is_sequenced c p) (marks_of a (log_at w p) ++ Batch e q ∷ [])) (sym (producer_push unseen (marks_of a (log_at w p)) (Batch e q)))
    (broker_batch (is_sequenced c p) (marks_of a (log_at w p)) (producer_at w a p) e q (g.brokers a p) (not_lt e (producer_at w a p).high f) n)

good_accept : (c : Config) (w : World) (n a p e : ℕ) (q : Option ℕ) (x : Item) → Good c w → InRange c w a p → IsPlace c p → IsOf a x (Batch e q) → is_current (coord_at w a) e ≡ true → is_prepare (coord_at w a).status ≡ false
    → nat_lt e (producer_at w a p).high ≡ false → IsNumbered (is_sequenced c p) q (next_sequence (producer_at w a p) e) → Good c (accept none c w n a p x)
good_accept c w n a p e q x g r lp is cur np f num =
    let same : (coord_at w a).epoch ≡ e = eqb-true (coord_at w a).epoch e (and_parts (coord_at w a).started ((coord_at w a).epoch == e) cur).1 in
    let gv : Good c (with_partition none c w a p) = good_partition c w a p g r lp np (and_parts (coord_at w a).started ((coord_at w a).epoch == e) cur).0 in
    let pt : Joined c (with_partition none c w a p) a p e (marks_of a (log_at w p)) = joined c w a p e r same in
    let kept : IsKept c p (marks_of a (log_at (with_partition none c w a p) p) ++ Batch e q ∷ []) = subst (λ (ts : List Mark). IsKept c p (ts ++ Batch e q ∷ [])) (sym pt.marks) (kept_batch c w a p e q g f num) in
    let gi : Good c (with_item (with_partition none c w a p) p x) = good_item c (with_partition none c w a p) p x a (Batch e q) gv is pt.range.part (appended_keeps (app_of c (with_partition none c w a p) a) p e q (gv.apps a) pt.there) kept in
    good_like c (with_item (with_partition none c w a p) p x) _ _ _ _ _ gi gi.due gi.sessions

good_output : (c : Config) (w : World) (n a e p s : ℕ) (x : Option Claim) (v : ℕ) → Good c w → InRange c w a p → IsPlace c p → Good c (deliver_output none c w n a e p s x v).0
good_output c w n a e p s x v g r lp =
    good_if c _ _ _ (λ h. g) (λ f.
    good_if c _ _ _ (λ h. g) (λ f2.
    good_if c _ _ _ (λ h. g) (λ f3.
    good_if c _ _ _ (λ h. g) (λ f4.
    good_if c _ _ _ (λ h. g) (λ f5. good_accept c w n a p e (Some s) (Output a e s x v w.events) g r lp (of_output a e s x v w.events) (not_false _ f4) f5 f (eqb-true s (next_sequence (producer_at w a p) e) (not_false _ f3)))))))

good_offset : (c : Config) (w : World) (n a e y q : ℕ) (v : Option ℕ) → Good c w → InRange c w a offsets_index → Good c (deliver_offset none c w n a e y q v).0
good_offset c w n a e y q v g r =
    good_if c _ _ _ (λ h. g) (λ f1.
    good_if c _ _ _ (λ h. g) (λ f2.
    good_if c _ _ _ (λ h. g) (λ f.
    good_if c _ _ _ (λ h. g) (λ f4.
    good_if c _ _ _ (λ h. g) (λ f5. good_accept c w n a offsets_index e None (Offset a e q v w.events) g r (omega arith) (of_offset a e q v w.events) (not_false _ f4) f5 f (unsequenced c))))))
  where
    unsequenced : (c : Config) → nat_lt c.transaction_logs 0 ≡ false
    unsequenced c = grind arith

-- ---- ends

good_end : (c : Config) (w : World) (a e : ℕ) (k : Kind) → Good c w → InRange c w a 0 → Good c (deliver_end none c w a e k).0
good_end c w a e k g r =
    good_if c _ _ _ (λ h. g) (λ f1.
    good_if c _ _ _ (λ h. g) (λ f2.
    good_if c _ _ _ (λ h. g) (λ f3.
    let np = (or_parts (not (is_current (coord_at w a) e)) (is_prepare (coord_at w a).status) f2).1 in
    let st = (and_parts (coord_at w a).started ((coord_at w a).epoch == e) (not_false _ (or_parts (not (is_current (coord_at w a) e)) (is_prepare (coord_at w a).status) f2).0)).0 in
    let mv = moves_prepare (coord_at w a).started (coord_at w a).status (coord_at w a).epoch k st np f3 in
    let grows : Grows (coord_at w a).status (coord_at w a).partitions (ongoing_partitions (coord_at w a).status (coord_at w a).partitions) = grows_ongoing (coord_at w a).status (coord_at w a).partitions np in
    good_if c _ _ _
    (λ h.
    let nil = nil_is (ongoing_partitions (coord_at w a).status (coord_at w a).partitions) h in
    let x : Entry = record { status = Prepare k; epoch = (coord_at w a).epoch + 1; partitions = [] } in
    let s : coord_at (prepared none c w a k []) a ≡ state_of x = coord_itself (with_item w (txn_index c a) (State a x w.events)) a (state_of x) r.app in
    good_finished c (prepared none c w a k []) a 0 k (good_prepared c w a 0 k [] g r (All-nil (IsPlace c)) (subst (Grows (coord_at w a).status (coord_at w a).partitions) nil grows) mv) (range_prepared c w a 0 k [] r)
    (ap (λ (v : Coordinator). v.status) s) (ap (λ (v : Coordinator). v.awaited) s) (ap (λ (v : Coordinator). v.started) s))
    (λ h. good_prepared c w a 0 k (ongoing_partitions (coord_at w a).status (coord_at w a).partitions) g r (all_ongoing (IsPlace c) (coord_at w a).status (coord_at w a).partitions (g.places a)) grows mv))))

-- ---- markers

good_ticked : (c : Config) (w : World) (a m : ℕ) (k : Kind) (p : ℕ) → Good c w → Good c (with_item w p (Marker a m k w.events)) → InRange c w a p → IsOrdered (app_of c w a).decisions p m k → All (IsUnder m) (marks_of a (log_at w p))
    → IsCurrent (coord_at w a).status (coord_at w a).epoch m k → Good c (with_coord (with_item w p (Marker a m k w.events)) a (ticked_off (coord_at w a) p))
good_ticked c w a m k p g gv r is u cur =
    good_coord c (with_item w p (Marker a m k w.events)) a (ticked_off (coord_at w a) p) gv r.app
    (record { started = (gv.read a).started; status = (gv.read a).status; epoch = (gv.read a).epoch; partitions = (gv.read a).partitions })
    (gv.places a)
    (subst (λ (s : App). Invariant (with_state s (ticked_off (coord_at w a) p))) (sym (app_pushed c w p (Marker a m k w.events) a (End m k) (of_marker a m k w.events).itself refl r.part))
    (ticked_keeps (app_of c w a) p m k (g.apps a) is u cur))

-- an end marker that a broker appends, and after which a coordinator that waits for it has one fewer to wait for
pub record Marked (c : Config) (w : World) (a m : ℕ) (k : Kind) (p : ℕ) : Type 0 where
  pub appended : Good c (with_item w p (Marker a m k w.events))
  pub ticked : IsCurrent (coord_at w a).status (coord_at w a).epoch m k → Good c (with_coord (with_item w p (Marker a m k w.events)) a (ticked_off (coord_at w a) p))

good_appended : (c : Config) (w : World) (a m : ℕ) (k : Kind) (p : ℕ) → Good c w → InRange c w a p → IsOrdered (app_of c w a).decisions p m k → (nat_lt m (producer_at w a p).high || not_above m (producer_at w a p).last) ≡ false → Marked c w a m k p
good_appended c w a m k p g r is f =
    let b = or_parts (nat_lt m (producer_at w a p).high) (not_above m (producer_at w a p).last) f in
    let l = not_lt m (producer_at w a p).high b.0 in
    let low = above (producer_at w a p).last m b.1 in
    let u : All (IsUnder m) (marks_of a (log_at w p)) = under (is_sequenced c p) (marks_of a (log_at w p)) (producer_at w a p) m (g.brokers a p) l low in
    let kept : IsKept c p (marks_of a (log_at w p) ++ End m k ∷ []) =
    subst (Broker (is_sequenced c p) (marks_of a (log_at w p) ++ End m k ∷ [])) (sym (producer_push unseen (marks_of a (log_at w p)) (End m k))) (broker_end (is_sequenced c p) (marks_of a (log_at w p)) (producer_at w a p) m k (g.brokers a p) l low) in
    let gv : Good c (with_item w p (Marker a m k w.events)) = good_item c w p (Marker a m k w.events) a (End m k) g (of_marker a m k w.events) r.part (marked_keeps (app_of c w a) p m k (g.apps a) is u) kept in
    record { appended = gv; ticked = λ cur. good_ticked c w a m k p g gv r is u cur }

good_marker : (c : Config) (w : World) (a m : ℕ) (k : Kind) (p : ℕ) → Good c w → InRange c w a p → IsOrdered (app_of c w a).decisions p m k → Good c (deliver_marker none c w a m k p).0
good_marker c w a m k p g r is =
    good_if c _ _ _ (λ h. g) (λ f.
    let v : Marked c w a m k p = good_appended c w a m k p g r is f in
    good_if c _ _ _ (λ h. v.appended) (λ f2.
    let t = and_parts (waits_for (coord_at w a).status (coord_at w a).epoch m k) (has p (coord_at w a).awaited) (not_false _ f2) in
    let cur = waited_is (coord_at w a).status (coord_at w a).epoch m k t.0 in
    let gz : Good c (with_coord (with_item w p (Marker a m k w.events)) a (ticked_off (coord_at w a) p)) = v.ticked cur.0 in
    let s : coord_at (with_coord (with_item w p (Marker a m k w.events)) a (ticked_off (coord_at w a) p)) a ≡ ticked_off (coord_at w a) p = coord_itself (with_item w p (Marker a m k w.events)) a (ticked_off (coord_at w a) p) r.app in
    good_if c _ _ _
    (λ h. good_finished c (with_coord (with_item w p (Marker a m k w.events)) a (ticked_off (coord_at w a) p)) a p k gz (range_coord c (with_item w p (Marker a m k w.events)) a p a (ticked_off (coord_at w a) p) (range_item c w a p p (Marker a m k w.events) r))
    (ap (λ (v : Coordinator). v.status) s ∙ cur.1) (ap (λ (v : Coordinator). v.awaited) s ∙ nil_is (without p (coord_at w a).awaited) h) (ap (λ (v : Coordinator). v.started) s ∙ began_prepare c w a k g cur.1))
    (λ h. gz)))

-- apart from what completes its transaction
good_apart : (c : Config) (w : World) (a m : ℕ) (k : Kind) (p : ℕ) → Good c w → InRange c w a p → IsOrdered (app_of c w a).decisions p m k → Good c (append_marker none c w a m k p).0
good_apart c w a m k p g r is =
    good_if c _ _ _ (λ h. g) (λ f.
    let v : Marked c w a m k p = good_appended c w a m k p g r is f in
    good_if c _ _ _ (λ h. v.appended) (λ f2.
    v.ticked (waited_is (coord_at w a).status (coord_at w a).epoch m k (and_parts (waits_for (coord_at w a).status (coord_at w a).epoch m k) (has p (coord_at w a).awaited) (not_false _ f2)).0).0))

good_completed : (c : Config) (w : World) (a : ℕ) (t : Status) → (coord_at w a).status ≡ t → Good c w → InRange c w a 0 → Good c (complete_prepared none c w a t).0
good_completed c w a Empty e g r = g
good_completed c w a Ongoing e g r = g
good_completed c w a (Prepare k) e g r = good_if c _ _ _ (λ h. g) (λ f. good_finished c w a 0 k g r e (nil_is (coord_at w a).awaited (not_false _ f)) (began_prepare c w a k g e))
good_completed c w a (Complete k) e g r = g

-- ---- deliveries

abbrev pub DueIf : Config → World → Option Message → Type 0
DueIf c w None = ⊤
DueIf c w (Some x) = IsDue c w x

due_at : (c : Config) (w : World) (ms : List Message) (n : ℕ) → All (IsDue c w) ms → DueIf c w (slice_get ms n)
due_at c w [] n h = tt
due_at c w (x ∷ ms) zero h = All-head (IsDue c w) x ms h
due_at c w (x ∷ ms) (suc n) h = due_at c w ms n (All-tail (IsDue c w) x ms h)

good_deliver : (c : Config) (w : World) (n : ℕ) (r : Option Message) → IsConfig c → Good c w → DueIf c w r → Good c (deliver none c w n r).0
good_deliver c w n None i g d = g
good_deliver c w n (Some (messages.Output a e p s x v)) i g d =
    let l : IsPlace c (written_index c a p) = written_there c a p d.1 in
    good_output c w n a e (written_index c a p) s x v g (ranges c w a (written_index c a p) i g d.0 l) l
good_deliver c w n (Some (messages.Offset a e y q v)) i g d = good_offset c w n a e y q v g (ranges c w a 0 i g d (omega arith))
good_deliver c w n (Some (messages.End a e k)) i g d = good_end c w a e k g (ranges c w a 0 i g d (omega arith))
good_deliver c w n (Some (messages.Marker a m k p)) i g d = good_marker c w a m k p g (ranges c w a p i g d.0 d.1) d.2

good_writing : (c : Config) (w : World) (r : Option Message) → IsConfig c → Good c w → DueIf c w r → Good c (write_marker none c w r).0
good_writing c w None i g d = g
good_writing c w (Some (messages.Output a e p s x v)) i g d = g
good_writing c w (Some (messages.Offset a e y q v)) i g d = g
good_writing c w (Some (messages.End a e k)) i g d = g
good_writing c w (Some (messages.Marker a m k p)) i g d = good_apart c w a m k p g (ranges c w a p i g d.0 d.1) d.2

-- ---- sessions

good_session : (c : Config) (w : World) (a e : ℕ) → Good c w → InRange c w a 0 → IsSettled (coord_at w a).status → (coord_at w a).epoch ≤ e → Good c (start_session none c w a e).0
good_session c w a e g r i le =
    good_if c _ _ _ (λ h. g) (λ f.
    let x : Entry = record { status = Empty; epoch = e; partitions = [] } in
    let gw : Good c (written none c w a x) = good_written c w a x g r.app r.txn (All-nil (IsPlace c)) (begun_keeps (app_of c w a) e (g.apps a) i le) (moves_empty (coord_at w a).started (coord_at w a).status (coord_at w a).epoch e i) in
    good_like c (written none c w a x) _ _ _ _ _ gw gw.due (All-push (IsOfOne c) w.sessions (new_session c a e (generation_of c w a)) g.sessions (omega (arith, r.app, g.coordinators))))

good_start : (c : Config) (w : World) (a : ℕ) → IsConfig c → Good c w → Good c (start none c w a).0
good_start c w a i g =
    good_if c _ _ _ (λ h. g) (λ f.
    let r : InRange c w a 0 = ranges c w a 0 i g (is_lt a (application_count c) (not_false _ f)) (omega arith) in
    good_if c _ _ _ (λ h. g) (λ np.
    good_if c _ _ _
    (λ h. good_prepared c w a 0 Abort (coord_at w a).partitions g r (g.places a) (grows_same (coord_at w a).status (coord_at w a).partitions np) (moves_prepare (coord_at w a).started (coord_at w a).status (coord_at w a).epoch Abort (began_ongoing c w a g h) np refl))
    (λ h. good_session c w a _ g r (settled (coord_at w a).status h np) (later (coord_at w a) (began c w a g)))))
  where
    grows_same : (s : Status) (ps : List ℕ) → is_prepare s ≡ false → Grows s ps ps
    grows_same Empty ps h = tt
    grows_same Ongoing ps h = λ p q. q
    grows_same (Prepare k) ps h = absurd cc
    grows_same (Complete k) ps h = tt

    later : (s : Coordinator) → (s.started ≡ true) ⊎ IsFresh s → s.epoch ≤ (if s.started then s.epoch + 1 else 0)
    later s (inl t) = rw t (omega arith)
    later s (inr f) = omega (arith, f.epoch)

-- a session that there is
abbrev pub OneIf : Config → Option Session → Type 0
OneIf c None = ⊤
OneIf c (Some s) = IsOfOne c s

session_at : (c : Config) (ss : List Session) (n : ℕ) → All (IsOfOne c) ss → OneIf c (slice_get ss n)
session_at c [] n h = tt
session_at c (x ∷ ss) zero h = All-head (IsOfOne c) x ss h
session_at c (x ∷ ss) (suc n) h = session_at c ss n (All-tail (IsOfOne c) x ss h)

-- its message is queued
good_sent : (c : Config) (w : World) (n : ℕ) (s : Session) (x : Message) → Good c w → IsOfOne c s → IsDue c w x → Good c (sent w n s x)
good_sent c w n s x g o d = good_like c w (w.messages ++ x ∷ []) _ _ w.generations w.events g (All-push (IsDue c w) w.messages x g.due d) (All-set (IsOfOne c) w.sessions n s o g.sessions)

good_produce : (c : Config) (w : World) (n p : ℕ) (x : Option Claim) (r : Option Session) → Good c w → OneIf c r → Good c (produce c w n p x r).0
good_produce c w n p x None g o = g
good_produce c w n p x (Some s) g o =
    good_if c _ _ _ (λ h. g) (λ f.
    let l : p < c.outputs = is_lt p c.outputs (not_false _ (or_parts (not (nat_lt p c.outputs)) (nat_lt 249 (length (claimed_topic x))) f).0) in
    good_if c _ _ _ (λ h. g) (λ h. good_sent c w n (after_output s p (length w.messages)) _ g o (o, l)))

good_commit_offset : (c : Config) (w : World) (n q : ℕ) (v : Option ℕ) (r : Option Session) → Good c w → OneIf c r → Good c (commit_offset c w n q v r).0
good_commit_offset c w n q v None g o = g
good_commit_offset c w n q v (Some s) g o = good_if c _ _ _ (λ h. g) (λ f. good_if c _ _ _ (λ h. g) (λ h. good_sent c w n (after_offset s (length w.messages)) _ g o o))

good_commit : (c : Config) (w : World) (n q : ℕ) (v : Option ℤ) → Good c w → Good c (commit c w n q v).0
good_commit c w n q None g = good_commit_offset c w n q None (slice_get w.sessions n) g (session_at c w.sessions n g.sessions)
good_commit c w n q (Some (pos v)) g = good_commit_offset c w n q (Some v) (slice_get w.sessions n) g (session_at c w.sessions n g.sessions)
good_commit c w n q (Some (negsuc v)) g = g

good_end_session : (c : Config) (w : World) (n : ℕ) (k : Kind) (r : Option Session) → Good c w → OneIf c r → Good c (end_session w n k r).0
good_end_session c w n k None g o = g
good_end_session c w n k (Some s) g o = good_if c _ _ _ (λ h. g) (λ h. good_sent c w n (after_end s k) _ g o o)

good_ended : (c : Config) (w : World) (n : ℕ) (s : Session) (r : Option Kind) → Good c w → IsOfOne c s → Good c (resume_ended c w n s r).0
good_ended c w n s None g o = g
good_ended c w n s (Some k) g o =
    good_if c _ _ _ (λ h. g) (λ f1. good_if c _ _ _ (λ h. g) (λ f2. good_if c _ _ _ (λ h. g) (λ f3.
    good_like c w _ _ _ _ _ g g.due (All-set (IsOfOne c) w.sessions n (after_resume c s) o g.sessions))))

good_resume : (c : Config) (w : World) (n : ℕ) (r : Option Session) → Good c w → OneIf c r → Good c (resume c w n r).0
good_resume c w n None g o = g
good_resume c w n (Some s) g o = good_ended c w n s s.ending g o

good_fetch : (c : Config) (w : World) (q : ℕ) (r : Option Session) → Good c w → Good c (fetch c w q r).0
good_fetch c w q None g = g
good_fetch c w q (Some s) g = good_if c _ _ _ (λ h. g) (λ f1. good_if c _ _ _ (λ h. g) (λ f2. good_if c _ _ _ (λ h. g) (λ f3. g)))

good_added : (c : Config) (w : World) (p : Option ℕ) (r : Option Session) → IsConfig c → Good c w → OneIf c r → Good c (add_partition none c w p r).0
good_added c w p None i g o = g
good_added c w p (Some s) i g o =
    good_if c _ _ _ (λ h. g) (λ f1.
    let l : IsPlace c (target_index c s.application p) = target_there c s.application p (not_false _ f1) in
    good_if c _ _ _ (λ h. g) (λ f2. good_if c _ _ _ (λ h. g) (λ f3. good_if c _ _ _ (λ h. g) (λ np.
    good_partition c w s.application (target_index c s.application p) g (ranges c w s.application (target_index c s.application p) i g o l) l np
    (and_parts (coord_at w s.application).started ((coord_at w s.application).epoch == s.epoch) (not_false _ f3)).0))))

good_feed : (c : Config) (w : World) (p : ℕ) → Good c w → Good c (feed c w p).0
good_feed c w p g = good_if c _ _ _ (λ h. g) (λ f.
    let l : p < c.inputs = is_lt p c.inputs (not_false _ f) in
    good_fed c w (input_index c p) w.events g (omega (arith, l, g.logs)))

-- ---- the states are read again

-- what is read awaits the markers of all its partitions
read_awaits : (s : Coordinator) (xs : List Entry) → s.awaited ≡ s.partitions → (last_state s xs).awaited ≡ (last_state s xs).partitions
read_awaits s [] h = h
read_awaits s (x ∷ xs) h = read_awaits (state_of x) xs refl

coord_restarted : (c : Config) (w : World) (a : ℕ) → a < length w.coordinators → coord_at (restarted c w) a ≡ reread c w a
coord_restarted c w a l =
    get_or-map (reread c w) (range_with_len 0 (length w.coordinators)) a 0 fresh (omega (arith, length-range_with_len 0 (length w.coordinators)))
    ∙ ap (reread c w) (get_or-range_with_len 0 (length w.coordinators) a 0 l ∙ omega arith)

coord_past : (c : Config) (w : World) (a : ℕ) → length w.coordinators ≤ a → coord_at (restarted c w) a ≡ coord_at w a
coord_past c w a l =
    get_or_past (map (reread c w) (range_with_len 0 (length w.coordinators))) a fresh (omega (arith, length-range_with_len 0 (length w.coordinators), length-map (range_with_len 0 (length w.coordinators)) (reread c w)))
    ∙ sym (get_or_past w.coordinators a fresh l)

app_restarted : (c : Config) (w : World) (a : ℕ) → IsRead (coord_at w a) (reread c w a) → a < length w.coordinators → app_of c (restarted c w) a ≡ waited (app_of c w a)
app_restarted c w a r l =
    let s = coord_restarted c w a l in
    app_is _ _ (ap (λ (v : Coordinator). v.status) s ∙ sym r.status) (ap (λ (v : Coordinator). v.epoch) s ∙ sym r.epoch) (ap (λ (v : Coordinator). v.partitions) s ∙ sym r.partitions)
    (ap (λ (v : Coordinator). v.awaited) s ∙ (read_awaits fresh (entries_of a (log_at w (txn_index c a))) refl ∙ sym r.partitions)) refl (λ p. refl)

-- a cluster with other states
due_restarted : (c : Config) (w : World) (x : Message) → IsDue c w x → IsDue c (restarted c w) x
due_restarted c w (messages.Output a f p s x v) h = h
due_restarted c w (messages.Offset a f g q v) h = h
due_restarted c w (messages.End a f k) h = h
due_restarted c w (messages.Marker a m k p) h = h

due_of : (c : Config) (w : World) (a : ℕ) (t : Status) (now : ℕ) (ps : List ℕ) → a < application_count c → All (IsPlace c) ps → Orders t now ps (decisions_of c w a) → All (IsDue c w) (due_again t a now ps)
due_of c w a Empty now ps l h o = All-nil (IsDue c w)
due_of c w a Ongoing now ps l h o = All-nil (IsDue c w)
due_of c w a (Complete k) now ps l h o = All-nil (IsDue c w)
due_of c w a (Prepare k) now ps l h o =
    All-map (IsDue c w) (messages.Marker a now k) ps (All-weaker (Contains ps) (λ q. IsDue c w (messages.Marker a now k q)) (λ q i. (l, all_here (IsPlace c) ps h q i, o q i)) ps (All-contains_itself ps))

all_flat : {Y : Type 0} (P : Y → Type 0) (f : ℕ → List Y) (m n : ℕ) → ((x : ℕ) → x < m + n → All P (f x)) → All P (flat_map f (range_with_len m n))
all_flat P f m zero h = All-nil P
all_flat P f m (suc n) h = All-append P (f m) (flat_map f (range_with_len (m + 1) n)) (h m (omega arith)) (all_flat P f (m + 1) n (λ x l. h x (omega arith)))

good_restarted : (c : Config) (w : World) → Good c w → Good c (restarted c w)
good_restarted c w g = record {
  apps = λ a. elim (cases_lt a (length w.coordinators)) [
    | inl l ↦ subst Invariant (sym (app_restarted c w a (g.read a) l)) (waited_keeps (app_of c w a) (g.apps a))
    | inr l ↦ subst (λ (v : Coordinator). Invariant (with_state (app_of c w a) v)) (sym (coord_past c w a l)) (g.apps a)
  ];
  steps = g.steps;
  brokers = g.brokers;
  due = All-weaker (IsDue c w) (IsDue c (restarted c w)) (due_restarted c w) _ (All-append (IsDue c w) w.messages _ g.due
      (all_flat (IsDue c w) (queued_again c w) 0 (length w.coordinators) (λ a l.
      due_of c w a (reread c w a).status (reread c w a).epoch (reread c w a).partitions (omega (arith, l, g.coordinators)) (subst (All (IsPlace c)) (g.read a).partitions (g.places a))
      (orders_read (coord_at w a) (reread c w a) (decisions_of c w a) (g.read a) (g.apps a).orders))));
  places = λ a. elim (cases_lt a (length w.coordinators)) [
    | inl l ↦ subst (λ (v : Coordinator). All (IsPlace c) v.partitions) (sym (coord_restarted c w a l)) (subst (All (IsPlace c)) (g.read a).partitions (g.places a))
    | inr l ↦ subst (λ (v : Coordinator). All (IsPlace c) v.partitions) (sym (coord_past c w a l)) (g.places a)
  ];
  sessions = g.sessions;
  coordinators = length-map (range_with_len 0 (length w.coordinators)) (reread c w) ∙ (length-range_with_len 0 (length w.coordinators) ∙ g.coordinators);
  logs = g.logs;
  read = λ a. elim (cases_lt a (length w.coordinators)) [
    | inl l ↦ subst (λ (v : Coordinator). IsRead v (reread c w a)) (sym (coord_restarted c w a l)) (record { started = refl; status = refl; epoch = refl; partitions = refl })
    | inr l ↦ subst (λ (v : Coordinator). IsRead v (reread c w a)) (sym (coord_past c w a l)) (g.read a)
  ];
}
  where
    orders_read : (s t : Coordinator) (ds : List Decision) → IsRead s t → Orders s.status s.epoch s.partitions ds → Orders t.status t.epoch t.partitions ds
    orders_read s t ds r o = subst (λ (z : Status). Orders z t.epoch t.partitions ds) r.status (subst (λ (e : ℕ). Orders s.status e t.partitions ds) r.epoch (subst (λ (ps : List ℕ). Orders s.status s.epoch ps ds) r.partitions o))

-- ---- an election that loses nothing

-- other elections
abbrev with_elections : World → List Election → World
with_elections w es = record w { elections = es }

due_elections : (c : Config) (w : World) (es : List Election) (x : Message) → IsDue c w x → IsDue c (with_elections w es) x
due_elections c w es (messages.Output a f p s x v) h = h
due_elections c w es (messages.Offset a f g q v) h = h
due_elections c w es (messages.End a f k) h = h
due_elections c w es (messages.Marker a m k p) h = h

good_elections : (c : Config) (w : World) (es : List Election) → Good c w → Good c (with_elections w es)
good_elections c w es g = record {
  apps = g.apps;
  brokers = g.brokers;
  due = All-weaker (IsDue c w) (IsDue c (with_elections w es)) (due_elections c w es) w.messages g.due;
  read = g.read;
  steps = g.steps;
  places = g.places;
  sessions = g.sessions;
  coordinators = g.coordinators;
  logs = g.logs;
}

-- the whole log is kept
elected_same : (w : World) (p k : ℕ) → k ≤ length (log_at w p) → length (log_at w p) - k ≡ 0 → elected w p k ≡ with_elections w (w.elections ++ election_of w p k ∷ [])
elected_same w p k l z =
    let whole : take k (log_at w p) ≡ log_at w p = take_all k (log_at w p) (omega (arith, l, z)) in
    ap (λ (ls : List (List Item)). record w { logs = ls; elections = w.elections ++ election_of w p k ∷ [] }) (ap (slice_set w.logs p) whole ∙ set-get_or w.logs p [])

lossless_last : (xs : List Election) (x : Election) → All (λ y. y.lost ≡ 0) (xs ++ x ∷ []) → x.lost ≡ 0
lossless_last [] x h = All-head (λ y. y.lost ≡ 0) x [] h
lossless_last (y ∷ xs) x h = lossless_last xs x (All-tail (λ z. z.lost ≡ 0) y (xs ++ x ∷ []) h)

good_unless : (c : Config) (t : Bool) (x y : Answer) → Good c x.0 → (t ≡ false → LosesNothing y.0 → Good c y.0) → LosesNothing (when t x y).0 → Good c (when t x y).0
unfolding when
good_unless c true x y f g h = f
good_unless c false x y f g h = g refl h

good_elected : (c : Config) (w : World) (k : ℕ) (r : Option ℕ) → Good c w → LosesNothing (elect w k r).0 → Good c (elect w k r).0
good_elected c w k None g h = g
good_elected c w k (Some p) g h = good_unless c _ _ _ g (λ f1. good_unless c _ _ _ g (λ f2 n.
    subst (Good c) (sym (elected_same w p k (not_lt (length (log_at w p)) k f1) (lossless_last w.elections (election_of w p k) n))) (good_elections c w (w.elections ++ election_of w p k ∷ []) g))) h

-- ---- any event, and any list

good_event : (c : Config) (w : World) (e : Event) → IsConfig c → Good c w → LosesNothing (happens c w e).0 → Good c (happens c w e).0
good_event c w (events.Feed p) i g n0 = good_feed c w p g
good_event c w (events.Start a) i g n0 = good_start c w a i g
good_event c w (events.Produce n p x) i g n0 = good_produce c w n p x (slice_get w.sessions n) g (session_at c w.sessions n g.sessions)
good_event c w (events.Commit n q v) i g n0 = good_commit c w n q v g
good_event c w (events.End n k) i g n0 = good_end_session c w n k (slice_get w.sessions n) g (session_at c w.sessions n g.sessions)
good_event c w (events.Resume n) i g n0 = good_resume c w n (slice_get w.sessions n) g (session_at c w.sessions n g.sessions)
good_event c w (events.Fetch n q) i g n0 = good_fetch c w q (slice_get w.sessions n) g
good_event c w (events.Members m) i g n0 = good_if c _ _ _ (λ h. g) (λ h. good_like c w _ _ _ _ _ g g.due g.sessions)
good_event c w (events.BrokerRestart t p) i g n0 = good_if c _ _ _ (λ h. g) (λ h. g)
good_event c w events.CoordinatorRestart i g n0 = good_restarted c w g
good_event c w (events.Deliver n) i g n0 = good_deliver c w n (slice_get w.messages n) i g (due_at c w w.messages n g.due)
good_event c w (events.TimeOut a) i g n0 = good_if c _ _ _ (λ h. g) (λ f.
    let r : InRange c w a 0 = ranges c w a 0 i g (is_lt a (application_count c) (not_false _ f)) (omega arith) in
    good_if c _ _ _ (λ h. g) (λ h. good_end c w a (coord_at w a).epoch Abort g r))
good_event c w (events.AddPartition n p) i g n0 = good_added c w p (slice_get w.sessions n) i g (session_at c w.sessions n g.sessions)
good_event c w (events.WriteMarker n) i g n0 = good_writing c w (slice_get w.messages n) i g (due_at c w w.messages n g.due)
good_event c w (events.Complete a) i g n0 = good_if c _ _ _ (λ h. g) (λ f.
    good_completed c w a (coord_at w a).status refl g (ranges c w a 0 i g (is_lt a (application_count c) (not_false _ f)) (omega arith)))
good_event c w (events.Elect t p k) i g n0 = good_elected c w k (electable_at c t p) g n0

good_counted : (c : Config) (n : ℕ) (x : Answer) → Good c x.0 → Good c (counted n x).0
good_counted c n x g = good_like c x.0 _ _ _ _ _ g g.due g.sessions

good_step : (c : Config) (w : World) (e : Event) → IsConfig c → Good c w → LosesNothing (step c w e).0 → Good c (step c w e).0
good_step c w e i g = good_unless c _ _ _ g (λ f n. good_counted c w.events (happens c w e) (good_event c w e i g n))

pub good_run : (c : Config) (w : World) (es : List Event) → IsConfig c → Good c w → LosesNothing (world_after c w es) → Good c (world_after c w es)
good_run c w [] i g n = g
good_run c w (e ∷ es) i g n = good_run c (step c w e).0 es i (good_step c w e i g (lossless_before c (step c w e).0 es n)) n
