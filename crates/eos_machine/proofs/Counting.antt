-- An event appends at most one batch or marker of an application to a partition, so sequences stay below the number of events.
use Rattle.std.proofs.Common.{◌≡◌, ℕ, ℤ, pos, negsuc, zero, suc, ◌+◌, ◌≤◌, ◌^◌, ◌==◌, ◌&&◌, Bool, true, false, List, [], ◌∷◌, ◌++◌, length, take, Option, Some, None, refl, sym, ap, subst, arith, ◌∙◌, inl, inr, if◌then◌else◌, length-append}
use Rattle.std.specs.Prelude.{slice_get, slice_index_or, slice_set}
use Rattle.std.specs.List.{cons_option}
use Rattle.std.proofs.lemmas.List.{get_or-set_same, get_or-set_other, get_or_past, length-set}
use Rattle.std.proofs.lemmas.List.Elements.{filter_map-append}
use Rattle.std.proofs.lemmas.Bool.{cases_lt}
use Rattle.eos_batch.specs.declared.marker.Kind.{Kind}
use Rattle.eos_batch.specs.declared.marker.Kind.TheVariants.{Abort}
use Rattle.eos_machine.specs.LogIndexes.{Config, txn_index, input_index, target_index, listed}
use Rattle.eos_machine.specs.Switching.{none}
use Rattle.eos_machine.specs.World.{Claim, Status, Empty, Ongoing, Prepare, Complete, Entry, Item, Fed, State, Marker, Message, Session, World, Event, opening, coord_at, log_at, with_item, with_coord, written, prepared, finished}
use Rattle.eos_machine.specs.declared.state.Message.TheVariants as messages
use Rattle.eos_machine.specs.declared.event.Event.TheVariants as events
use Rattle.eos_machine.specs.Application.{Mark}
use Rattle.eos_machine.specs.Logs.{mark_in, marks_of}
use Rattle.eos_machine.specs.Tests.{is_ongoing, has, ongoing_partitions}
use Rattle.eos_machine.specs.Answers.{Answer, when}
use Rattle.eos_machine.specs.Sessions.{produce, commit_offset, commit, end_session, resume_ended, resume, fetch}
use Rattle.eos_machine.specs.Deliveries.{with_partition, accept, ticked_off, deliver, write_marker, complete_prepared}
use Rattle.eos_machine.specs.Elections.{electable_at, elect}
use Rattle.eos_machine.specs.Machine.{add_partition, step, world_after}
use Rattle.eos_machine.specs.steps.Machine.{happens}
use Rattle.eos_machine.proofs.Worlds.{each}
use Rattle.eos_machine.proofs.Resting.{no_log}

-- at most n batches and markers of an application stand in a partition
abbrev pub Few : ℕ → World → Type 0
Few n w = (a p : ℕ) → length (marks_of a (log_at w p)) ≤ n

-- what holds of each log, of one that is set, and of no log
log_cases : (P : ℕ → List Item → Type 0) (w : World) (p : ℕ) (log : List Item) → ((q : ℕ) → P q (log_at w q)) → P p log → P p [] → (q : ℕ) → P q (slice_index_or (slice_set w.logs p log) q [])
log_cases P w p log others this none = each (λ q. P q (slice_index_or (slice_set w.logs p log) q [])) p
    (elim (cases_lt p (length w.logs)) [
      | inl l ↦ subst (P p) (sym (get_or-set_same w.logs p log [] l)) this
      | inr r ↦ subst (P p) (sym (get_or_past (slice_set w.logs p log) p [] (omega (arith, r, length-set w.logs p log)))) none
    ])
    (λ q n. subst (P q) (sym (get_or-set_other w.logs p q log [] n)) (others q))

item_cases : (P : ℕ → List Item → Type 0) (w : World) (p : ℕ) (x : Item) → ((q : ℕ) → P q (log_at w q)) → P p (log_at w p ++ x ∷ []) → P p [] → (q : ℕ) → P q (log_at (with_item w p x) q)
item_cases P w p x others this none = log_cases P w p (log_at w p ++ x ∷ []) others this none

one_mark : (r : Option Mark) (a : ℕ) (x : Item) → mark_in a x ≡ r → length (marks_of a (x ∷ [])) ≤ 1
one_mark None a x e = rw e (omega arith)
one_mark (Some t) a x e = rw e (omega arith)

few_more : (n : ℕ) (w : World) → Few n w → Few (n + 1) w
few_more n w h = λ a p. let k = h a p in omega (arith, k)

few_item : (n : ℕ) (w : World) (p : ℕ) (x : Item) → Few n w → Few (n + 1) (with_item w p x)
few_item n w p x h = λ a. item_cases (λ q log. length (marks_of a log) ≤ n + 1) w p x (λ q. few_more n w h a q)
    (let e : length (marks_of a (log_at w p ++ x ∷ [])) ≡ length (marks_of a (log_at w p)) + length (marks_of a (x ∷ [])) =
    ap length (filter_map-append (mark_in a) (log_at w p) (x ∷ [])) ∙ length-append (marks_of a (log_at w p)) (marks_of a (x ∷ [])) in
    let k = h a p in let o = one_mark (mark_in a x) a x refl in omega (arith, e, k, o)) (omega arith)

-- a record of the transaction log is none
few_written : (n : ℕ) (c : Config) (w : World) (a : ℕ) (x : Entry) → Few n w → Few n (written none c w a x)
few_written n c w a x h = λ b. item_cases (λ q log. length (marks_of b log) ≤ n) w (txn_index c a) (State a x w.events) (h b)
    (let e : length (marks_of b (log_at w (txn_index c a) ++ State a x w.events ∷ [])) ≡ length (marks_of b (log_at w (txn_index c a))) + 0 =
    ap length (filter_map-append (mark_in b) (log_at w (txn_index c a)) (State a x w.events ∷ [])) ∙ length-append (marks_of b (log_at w (txn_index c a))) [] in
    let k = h b (txn_index c a) in omega (arith, e, k)) (omega arith)

few_if : (n : ℕ) (t : Bool) (x y : Answer) → Few n x.0 → Few n y.0 → Few n (when t x y).0
unfolding when
few_if n true x y f g = f
few_if n false x y f g = g

few_partition : (n : ℕ) (c : Config) (w : World) (a p : ℕ) → Few n w → Few n (with_partition none c w a p)
few_partition n c w a p h =
    elim (is_ongoing (coord_at w a).status && has p (coord_at w a).partitions) as (λ t. Few n (if t then w else written none c w a (record { status = Ongoing; epoch = (coord_at w a).epoch; partitions = listed p (ongoing_partitions (coord_at w a).status (coord_at w a).partitions) }))) [
      | true ↦ h
      | false ↦ few_written n c w a (record { status = Ongoing; epoch = (coord_at w a).epoch; partitions = listed p (ongoing_partitions (coord_at w a).status (coord_at w a).partitions) }) h
    ]

few_accept : (n : ℕ) (c : Config) (w : World) (m a p : ℕ) (x : Item) → Few n w → Few (n + 1) (accept none c w m a p x)
few_accept n c w m a p x h = few_item n (with_partition none c w a p) p x (few_partition n c w a p h)

few_prepared : (n : ℕ) (c : Config) (w : World) (a : ℕ) (k : Kind) (ps : List ℕ) → Few n w → Few n (prepared none c w a k ps)
few_prepared n c w a k ps h = few_written n c w a _ h

few_finished : (n : ℕ) (c : Config) (w : World) (a : ℕ) (k : Kind) → Few n w → Few n (finished none c w a k)
few_finished n c w a k h = few_written n c w a _ h

few_deliver : (n : ℕ) (c : Config) (w : World) (m : ℕ) (r : Option Message) → Few n w → Few (n + 1) (deliver none c w m r).0
few_deliver n c w m None h = few_more n w h
few_deliver n c w m (Some (messages.Output a e p s x v)) h =
    let d = few_more n w h in
    few_if (n + 1) _ _ _ d (few_if (n + 1) _ _ _ d (few_if (n + 1) _ _ _ d (few_if (n + 1) _ _ _ d (few_if (n + 1) _ _ _ d (few_accept n c w m a _ _ h)))))
few_deliver n c w m (Some (messages.Offset a e g q v)) h =
    let d = few_more n w h in
    few_if (n + 1) _ _ _ d (few_if (n + 1) _ _ _ d (few_if (n + 1) _ _ _ d (few_if (n + 1) _ _ _ d (few_if (n + 1) _ _ _ d (few_accept n c w m a 0 _ h)))))
few_deliver n c w m (Some (messages.End a e k)) h =
    let d = few_more n w h in
    few_if (n + 1) _ _ _ d (few_if (n + 1) _ _ _ d (few_if (n + 1) _ _ _ d (few_if (n + 1) _ _ _
    (few_finished (n + 1) c (prepared none c w a k []) a k (few_prepared (n + 1) c w a k [] d))
    (few_prepared (n + 1) c w a k _ d))))
few_deliver n c w m (Some (messages.Marker a e k p)) h =
    let i : Few (n + 1) (with_item w p (Marker a e k w.events)) = few_item n w p (Marker a e k w.events) h in
    few_if (n + 1) _ _ _ (few_more n w h) (few_if (n + 1) _ _ _ i (few_if (n + 1) _ _ _ (few_finished (n + 1) c (with_coord (with_item w p (Marker a e k w.events)) a (ticked_off (coord_at w a) p)) a k i) i))

few_writing : (n : ℕ) (c : Config) (w : World) (r : Option Message) → Few n w → Few (n + 1) (write_marker none c w r).0
few_writing n c w None h = few_more n w h
few_writing n c w (Some (messages.Output a e p s x v)) h = few_more n w h
few_writing n c w (Some (messages.Offset a e g q v)) h = few_more n w h
few_writing n c w (Some (messages.End a e k)) h = few_more n w h
few_writing n c w (Some (messages.Marker a e k p)) h =
    let i : Few (n + 1) (with_item w p (Marker a e k w.events)) = few_item n w p (Marker a e k w.events) h in
    few_if (n + 1) _ _ _ (few_more n w h) (few_if (n + 1) _ _ _ i i)

few_completed : (n : ℕ) (c : Config) (w : World) (a : ℕ) (t : Status) → Few n w → Few n (complete_prepared none c w a t).0
few_completed n c w a Empty h = h
few_completed n c w a Ongoing h = h
few_completed n c w a (Prepare k) h = few_if n _ _ _ h (few_finished n c w a k h)
few_completed n c w a (Complete k) h = h

few_session : (n : ℕ) (c : Config) (w : World) (m p : ℕ) (x : Option Claim) (r : Option Session) → Few n w → Few n (produce c w m p x r).0
few_session n c w m p x None h = h
few_session n c w m p x (Some s) h = few_if n _ _ _ h (few_if n _ _ _ h h)

few_commit : (n : ℕ) (c : Config) (w : World) (m q : ℕ) (v : Option ℕ) (r : Option Session) → Few n w → Few n (commit_offset c w m q v r).0
few_commit n c w m q v None h = h
few_commit n c w m q v (Some s) h = few_if n _ _ _ h (few_if n _ _ _ h h)

few_commits : (n : ℕ) (c : Config) (w : World) (m q : ℕ) (v : Option ℤ) → Few n w → Few n (commit c w m q v).0
few_commits n c w m q None h = few_commit n c w m q None (slice_get w.sessions m) h
few_commits n c w m q (Some (pos v)) h = few_commit n c w m q (Some v) (slice_get w.sessions m) h
few_commits n c w m q (Some (negsuc v)) h = h

few_end : (n : ℕ) (w : World) (m : ℕ) (k : Kind) (r : Option Session) → Few n w → Few n (end_session w m k r).0
few_end n w m k None h = h
few_end n w m k (Some s) h = few_if n _ _ _ h h

few_ended : (n : ℕ) (c : Config) (w : World) (m : ℕ) (s : Session) (k : Option Kind) → Few n w → Few n (resume_ended c w m s k).0
few_ended n c w m s None h = h
few_ended n c w m s (Some k) h = few_if n _ _ _ h (few_if n _ _ _ h (few_if n _ _ _ h h))

few_resume : (n : ℕ) (c : Config) (w : World) (m : ℕ) (r : Option Session) → Few n w → Few n (resume c w m r).0
few_resume n c w m None h = h
few_resume n c w m (Some s) h = few_ended n c w m s s.ending h

few_fetch : (n : ℕ) (c : Config) (w : World) (q : ℕ) (r : Option Session) → Few n w → Few n (fetch c w q r).0
few_fetch n c w q None h = h
few_fetch n c w q (Some s) h = few_if n _ _ _ h (few_if n _ _ _ h (few_if n _ _ _ h h))

few_added : (n : ℕ) (c : Config) (w : World) (p : Option ℕ) (r : Option Session) → Few n w → Few n (add_partition none c w p r).0
few_added n c w p None h = h
few_added n c w p (Some s) h = few_if n _ _ _ h (few_if n _ _ _ h (few_if n _ _ _ h (few_if n _ _ _ h (few_partition n c w s.application (target_index c s.application p) h))))

taken_few : (a k : ℕ) (xs : List Item) → length (marks_of a (take k xs)) ≤ length (marks_of a xs)
taken_few a zero xs = omega arith
taken_few a (suc k) [] = omega arith
taken_few a (suc k) (x ∷ xs) = let r = taken_few a k xs in elim (mark_in a x) as (λ o. length (cons_option o (marks_of a (take k xs))) ≤ length (cons_option o (marks_of a xs))) [
  | None ↦ r
  | Some t ↦ omega (arith, r)
]

few_elected : (n : ℕ) (w : World) (k : ℕ) (r : Option ℕ) → Few n w → Few n (elect w k r).0
few_elected n w k None h = h
few_elected n w k (Some p) h = few_if n _ _ _ h (few_if n _ _ _ h (λ a.
    log_cases (λ q log. length (marks_of a log) ≤ n) w p (take k (log_at w p)) (h a) (let t = taken_few a k (log_at w p) in let l = h a p in omega (arith, t, l)) (omega arith)))

pub few_event : (n : ℕ) (c : Config) (w : World) (e : Event) → Few n w → Few (n + 1) (happens c w e).0
few_event n c w (events.Feed p) h = few_if (n + 1) _ _ _ (few_more n w h) (few_item n w (input_index c p) (Fed w.events) h)
few_event n c w (events.Start a) h =
    let d = few_more n w h in
    few_if (n + 1) _ _ _ d (few_if (n + 1) _ _ _ d (few_if (n + 1) _ _ _ (few_prepared (n + 1) c w a _ _ d) (few_if (n + 1) _ _ _ d (few_written (n + 1) c w a _ d))))
few_event n c w (events.Produce m p x) h = few_session (n + 1) c w m p x (slice_get w.sessions m) (few_more n w h)
few_event n c w (events.Commit m q v) h = few_commits (n + 1) c w m q v (few_more n w h)
few_event n c w (events.End m k) h = few_end (n + 1) w m k (slice_get w.sessions m) (few_more n w h)
few_event n c w (events.Resume m) h = few_resume (n + 1) c w m (slice_get w.sessions m) (few_more n w h)
few_event n c w (events.Fetch m q) h = few_fetch (n + 1) c w q (slice_get w.sessions m) (few_more n w h)
few_event n c w (events.Members g) h = few_if (n + 1) _ _ _ (few_more n w h) (few_more n w h)
few_event n c w (events.BrokerRestart t p) h = few_if (n + 1) _ _ _ (few_more n w h) (few_more n w h)
few_event n c w events.CoordinatorRestart h = few_more n w h
few_event n c w (events.Deliver m) h = few_deliver n c w m (slice_get w.messages m) h
few_event n c w (events.TimeOut a) h =
    let d = few_more n w h in
    few_if (n + 1) _ _ _ d (few_if (n + 1) _ _ _ d (few_deliver n c w 0 (Some (messages.End a (coord_at w a).epoch Abort)) h))
few_event n c w (events.AddPartition m p) h = few_added (n + 1) c w p (slice_get w.sessions m) (few_more n w h)
few_event n c w (events.WriteMarker m) h = few_writing n c w (slice_get w.messages m) h
few_event n c w (events.Complete a) h = let d = few_more n w h in few_if (n + 1) _ _ _ d (few_completed (n + 1) c w a (coord_at w a).status d)
few_event n c w (events.Elect t p k) h = few_elected (n + 1) w k (electable_at c t p) (few_more n w h)

-- ---- any list of events

pub record IsCounted (w : World) : Type 0 where
  pub few : Few w.events w
  pub limit : w.events ≤ 2 ^ 31

counted_if : (t : Bool) (x y : Answer) → IsCounted x.0 → (t ≡ false → IsCounted y.0) → IsCounted (when t x y).0
unfolding when
counted_if true x y f g = f
counted_if false x y f g = g refl

pub counted_step : (c : Config) (w : World) (e : Event) → IsCounted w → IsCounted (step c w e).0
counted_step c w e h = counted_if _ _ _ h (λ t. record { few = few_event w.events c w e h.few; limit = next w.events t h.limit })
  where
    next : (n : ℕ) → (n == 2 ^ 31) ≡ false → n ≤ 2 ^ 31 → n + 1 ≤ 2 ^ 31
    next n t l = grind arith

pub counted_run : (c : Config) (w : World) (es : List Event) → IsCounted w → IsCounted (world_after c w es)
counted_run c w [] h = h
counted_run c w (e ∷ es) h = counted_run c (step c w e).0 es (counted_step c w e h)

pub counted_opening : (c : Config) → IsCounted (opening c)
counted_opening c = record { few = λ a p. rw (no_log c p) (omega arith); limit = omega arith }
