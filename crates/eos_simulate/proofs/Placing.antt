-- Which items stand at which place, whatever happens.
use Rattle.std.proofs.Common.{◌≡◌, ℕ, ℤ, pos, negsuc, zero, suc, ◌<◌, ◌&&◌, Bool, true, false, List, [], ◌∷◌, ◌++◌, take, replicate, Option, Some, None, refl, sym, ap, subst, arith, inl, inr, ◌⊎◌, slice_index_or, slice_set, if◌then◌else◌}
use Rattle.std.specs.Prelude.{slice_get, ⊤}
use Rattle.std.specs.List.{All}
use Rattle.std.proofs.lemmas.List.Elements.{All-nil, All-push, All-take}
use Rattle.eos_batch.specs.declared.marker.Kind.{Kind}
use Rattle.eos_batch.specs.declared.marker.Kind.TheVariants.{Abort}
use Rattle.eos_machine.specs.declared.config.Config.{Config}
use Rattle.eos_machine.specs.LogIndexes.{txn_index, input_index, written_index, offsets_index, log_count, listed, target_index}
use Rattle.eos_machine.specs.declared.item.Claim.{Claim}
use Rattle.eos_machine.specs.declared.item.Status.{Status}
use Rattle.eos_machine.specs.declared.item.Entry.{Entry}
use Rattle.eos_machine.specs.declared.item.Item.{Item}
use Rattle.eos_machine.specs.declared.state.Session.{Session}
use Rattle.eos_machine.specs.declared.state.Message.{Message}
use Rattle.eos_machine.specs.declared.event.Event.{Event}
use Rattle.eos_machine.specs.declared.item.Status.TheVariants.{Empty, Ongoing, Prepare, Complete}
use Rattle.eos_machine.specs.declared.item.Item.TheVariants.{Fed, State, Output, Offset, Marker}
use Rattle.eos_machine.specs.Switching.{none}
use Rattle.eos_machine.specs.World.{World, opening, log_at, coord_at, with_item, with_coord, written, prepared, finished}
use Rattle.eos_machine.specs.declared.state.Message.TheVariants as messages
use Rattle.eos_machine.specs.declared.event.Event.TheVariants as events
use Rattle.eos_machine.specs.Tests.{is_ongoing, has, ongoing_partitions}
use Rattle.eos_machine.specs.Answers.{Answer, when}
use Rattle.eos_machine.specs.Sessions.{produce, commit_offset, commit, end_session, resume_ended, resume, fetch}
use Rattle.eos_machine.specs.Deliveries.{with_partition, accept, ticked_off, deliver, write_marker, complete_prepared}
use Rattle.eos_machine.specs.Elections.{electable_at, elect}
use Rattle.eos_machine.proofs.Written.{written_after}
use Rattle.eos_machine.specs.Machine.{start_session, start, step, world_after, add_partition}
use Rattle.eos_machine.specs.steps.Machine.{happens}

-- a state stands in the transaction log of its application, data elsewhere
abbrev pub IsHere : Config → ℕ → Item → Type 0
IsHere c p (Fed n) = c.transaction_logs < p
IsHere c p (State a x n) = p ≡ txn_index c a
IsHere c p (Output a e s x v n) = c.transaction_logs < p
IsHere c p (Offset a e q v n) = p ≡ offsets_index
IsHere c p (Marker a e k n) = ⊤

abbrev pub Placed : Config → World → Type 0
Placed c w = (p : ℕ) → All (IsHere c p) (log_at w p)

-- ---- changes

set_or : (ls : List (List Item)) (q : ℕ) (v : List Item) (p : ℕ) (d : List Item) → (slice_index_or (slice_set ls q v) p d ≡ slice_index_or ls p d) ⊎ ((p ≡ q) × (slice_index_or (slice_set ls q v) p d ≡ v))
set_or [] q v p d = inl refl
set_or (l ∷ ls) zero v zero d = inr (refl, refl)
set_or (l ∷ ls) zero v (suc p) d = inl refl
set_or (l ∷ ls) (suc q) v zero d = inl refl
set_or (l ∷ ls) (suc q) v (suc p) d = elim (set_or ls q v p d) [ inl e ↦ inl e | inr e ↦ inr (ap suc e.0, e.1) ]

placed_item : (c : Config) (w : World) (q : ℕ) (x : Item) → Placed c w → IsHere c q x → Placed c (with_item w q x)
placed_item c w q x h k p = elim (set_or w.logs q (log_at w q ++ x ∷ []) p []) [
  | inl e ↦ subst (All (IsHere c p)) (sym e) (h p)
  | inr e ↦ subst (All (IsHere c p)) (sym e.1) (subst (λ r. All (IsHere c r) (log_at w q ++ x ∷ [])) (sym e.0) (All-push (IsHere c q) (log_at w q) x (h q) k))
]

placed_written : (c : Config) (w : World) (a : ℕ) (x : Entry) → Placed c w → Placed c (written none c w a x)
placed_written c w a x h = placed_item c w (txn_index c a) (State a x w.events) h refl

placed_finished : (c : Config) (w : World) (a : ℕ) (k : Kind) → Placed c w → Placed c (finished none c w a k)
placed_finished c w a k h = placed_written c w a _ h

placed_prepared : (c : Config) (w : World) (a : ℕ) (k : Kind) (ps : List ℕ) → Placed c w → Placed c (prepared none c w a k ps)
placed_prepared c w a k ps h = placed_written c w a _ h

placed_partition : (c : Config) (w : World) (a p : ℕ) → Placed c w → Placed c (with_partition none c w a p)
placed_partition c w a p h =
    elim (is_ongoing (coord_at w a).status && has p (coord_at w a).partitions) as (λ t. Placed c (if t then w else written none c w a (record { status = Ongoing; epoch = (coord_at w a).epoch; partitions = listed p (ongoing_partitions (coord_at w a).status (coord_at w a).partitions) }))) [
      | true ↦ h
      | false ↦ placed_written c w a (record { status = Ongoing; epoch = (coord_at w a).epoch; partitions = listed p (ongoing_partitions (coord_at w a).status (coord_at w a).partitions) }) h
    ]

placed_accept : (c : Config) (w : World) (m a p : ℕ) (x : Item) → Placed c w → IsHere c p x → Placed c (accept none c w m a p x)
placed_accept c w m a p x h k = placed_item c (with_partition none c w a p) p x (placed_partition c w a p h) k

placed_if : (c : Config) (t : Bool) (x y : Answer) → Placed c x.0 → Placed c y.0 → Placed c (when t x y).0
unfolding when
placed_if c true x y f g = f
placed_if c false x y f g = g

-- ---- events

placed_deliver : (c : Config) (w : World) (m : ℕ) (r : Option Message) → Placed c w → Placed c (deliver none c w m r).0
placed_deliver c w m None h = h
placed_deliver c w m (Some (messages.Output a e p s x v)) h =
    placed_if c _ _ _ h (placed_if c _ _ _ h (placed_if c _ _ _ h (placed_if c _ _ _ h (placed_if c _ _ _ h (placed_accept c w m a (written_index c a p) (Output a e s x v w.events) h (written_after c a p))))))
placed_deliver c w m (Some (messages.Offset a e g q v)) h =
    placed_if c _ _ _ h (placed_if c _ _ _ h (placed_if c _ _ _ h (placed_if c _ _ _ h (placed_if c _ _ _ h (placed_accept c w m a offsets_index (Offset a e q v w.events) h refl)))))
placed_deliver c w m (Some (messages.End a e k)) h =
    placed_if c _ _ _ h (placed_if c _ _ _ h (placed_if c _ _ _ h (placed_if c _ _ _
    (placed_finished c (prepared none c w a k []) a k (placed_prepared c w a k [] h))
    (placed_prepared c w a k (ongoing_partitions (coord_at w a).status (coord_at w a).partitions) h))))
placed_deliver c w m (Some (messages.Marker a e k p)) h =
    let i : Placed c (with_item w p (Marker a e k w.events)) = placed_item c w p (Marker a e k w.events) h tt in
    placed_if c _ _ _ h (placed_if c _ _ _ i (placed_if c _ _ _ (placed_finished c (with_coord (with_item w p (Marker a e k w.events)) a (ticked_off (coord_at w a) p)) a k i) i))

placed_session : (c : Config) (w : World) (a e : ℕ) → Placed c w → Placed c (start_session none c w a e).0
placed_session c w a e h = placed_if c _ _ _ h (placed_written c w a _ h)

placed_start : (c : Config) (w : World) (a : ℕ) → Placed c w → Placed c (start none c w a).0
placed_start c w a h = placed_if c _ _ _ h (placed_if c _ _ _ h (placed_if c _ _ _ (placed_prepared c w a Abort (coord_at w a).partitions h) (placed_session c w a _ h)))

placed_produce : (c : Config) (w : World) (m p : ℕ) (x : Option Claim) (r : Option Session) → Placed c w → Placed c (produce c w m p x r).0
placed_produce c w m p x None h = h
placed_produce c w m p x (Some s) h = placed_if c _ _ _ h (placed_if c _ _ _ h h)

placed_offset : (c : Config) (w : World) (m q : ℕ) (v : Option ℕ) (r : Option Session) → Placed c w → Placed c (commit_offset c w m q v r).0
placed_offset c w m q v None h = h
placed_offset c w m q v (Some s) h = placed_if c _ _ _ h (placed_if c _ _ _ h h)

placed_commit : (c : Config) (w : World) (m q : ℕ) (v : Option ℤ) → Placed c w → Placed c (commit c w m q v).0
placed_commit c w m q None h = placed_offset c w m q None (slice_get w.sessions m) h
placed_commit c w m q (Some (pos v)) h = placed_offset c w m q (Some v) (slice_get w.sessions m) h
placed_commit c w m q (Some (negsuc v)) h = h

placed_end : (c : Config) (w : World) (m : ℕ) (k : Kind) (r : Option Session) → Placed c w → Placed c (end_session w m k r).0
placed_end c w m k None h = h
placed_end c w m k (Some s) h = placed_if c _ _ _ h h

placed_ended : (c : Config) (w : World) (m : ℕ) (s : Session) (k : Option Kind) → Placed c w → Placed c (resume_ended c w m s k).0
placed_ended c w m s None h = h
placed_ended c w m s (Some k) h = placed_if c _ _ _ h (placed_if c _ _ _ h (placed_if c _ _ _ h h))

placed_resume : (c : Config) (w : World) (m : ℕ) (r : Option Session) → Placed c w → Placed c (resume c w m r).0
placed_resume c w m None h = h
placed_resume c w m (Some s) h = placed_ended c w m s s.ending h

placed_fetch : (c : Config) (w : World) (q : ℕ) (r : Option Session) → Placed c w → Placed c (fetch c w q r).0
placed_fetch c w q None h = h
placed_fetch c w q (Some s) h = placed_if c _ _ _ h (placed_if c _ _ _ h (placed_if c _ _ _ h h))

placed_writing : (c : Config) (w : World) (r : Option Message) → Placed c w → Placed c (write_marker none c w r).0
placed_writing c w None h = h
placed_writing c w (Some (messages.Output a e p s x v)) h = h
placed_writing c w (Some (messages.Offset a e g q v)) h = h
placed_writing c w (Some (messages.End a e k)) h = h
placed_writing c w (Some (messages.Marker a e k p)) h =
    let i : Placed c (with_item w p (Marker a e k w.events)) = placed_item c w p (Marker a e k w.events) h tt in
    placed_if c _ _ _ h (placed_if c _ _ _ i i)

placed_completed : (c : Config) (w : World) (a : ℕ) (t : Status) → Placed c w → Placed c (complete_prepared none c w a t).0
placed_completed c w a Empty h = h
placed_completed c w a Ongoing h = h
placed_completed c w a (Prepare k) h = placed_if c _ _ _ h (placed_finished c w a k h)
placed_completed c w a (Complete k) h = h

placed_added : (c : Config) (w : World) (p : Option ℕ) (r : Option Session) → Placed c w → Placed c (add_partition none c w p r).0
placed_added c w p None h = h
placed_added c w p (Some s) h = placed_if c _ _ _ h (placed_if c _ _ _ h (placed_if c _ _ _ h (placed_if c _ _ _ h (placed_partition c w s.application (target_index c s.application p) h))))

placed_elected : (c : Config) (w : World) (k : ℕ) (r : Option ℕ) → Placed c w → Placed c (elect w k r).0
placed_elected c w k None h = h
placed_elected c w k (Some q) h = placed_if c _ _ _ h (placed_if c _ _ _ h (λ p. elim (set_or w.logs q (take k (log_at w q)) p []) [
  | inl e ↦ subst (All (IsHere c p)) (sym e) (h p)
  | inr e ↦ subst (All (IsHere c p)) (sym e.1) (subst (λ r. All (IsHere c r) (take k (log_at w q))) (sym e.0) (All-take (IsHere c q) k (log_at w q) (h q)))
]))

placed_event : (c : Config) (w : World) (e : Event) → Placed c w → Placed c (happens c w e).0
placed_event c w (events.Feed p) h = placed_if c _ _ _ h (placed_item c w (input_index c p) (Fed w.events) h (omega arith))
placed_event c w (events.Start a) h = placed_start c w a h
placed_event c w (events.Produce m p x) h = placed_produce c w m p x (slice_get w.sessions m) h
placed_event c w (events.Commit m q v) h = placed_commit c w m q v h
placed_event c w (events.End m k) h = placed_end c w m k (slice_get w.sessions m) h
placed_event c w (events.Resume m) h = placed_resume c w m (slice_get w.sessions m) h
placed_event c w (events.Fetch m q) h = placed_fetch c w q (slice_get w.sessions m) h
placed_event c w (events.Members g) h = placed_if c _ _ _ h h
placed_event c w (events.BrokerRestart t p) h = placed_if c _ _ _ h h
placed_event c w events.CoordinatorRestart h = h
placed_event c w (events.Deliver m) h = placed_deliver c w m (slice_get w.messages m) h
placed_event c w (events.TimeOut a) h = placed_if c _ _ _ h (placed_if c _ _ _ h (placed_deliver c w 0 (Some (messages.End a (coord_at w a).epoch Abort)) h))
placed_event c w (events.AddPartition m p) h = placed_added c w p (slice_get w.sessions m) h
placed_event c w (events.WriteMarker m) h = placed_writing c w (slice_get w.messages m) h
placed_event c w (events.Complete a) h = placed_if c _ _ _ h (placed_completed c w a (coord_at w a).status h)
placed_event c w (events.Elect t p k) h = placed_elected c w k (electable_at c t p) h

pub placed_run : (c : Config) (w : World) (es : List Event) → Placed c w → Placed c (world_after c w es)
placed_run c w [] h = h
placed_run c w (e ∷ es) h = placed_run c (step c w e).0 es (placed_if c _ _ _ h (placed_event c w e h))

pub placed_opening : (c : Config) → Placed c (opening c)
placed_opening c p = subst (All (IsHere c p)) (sym (empty (log_count c) p)) (All-nil (IsHere c p))
  where
    empty : (n p : ℕ) → slice_index_or (replicate n (let e : List Item = [] in e)) p [] ≡ []
    empty zero p = refl
    empty (suc n) zero = refl
    empty (suc n) (suc p) = empty n p
