-- No event takes an election back: what has lost nothing up to its end had lost nothing before.
use Rattle.std.proofs.Common.{◌≡◌, ℕ, ℤ, pos, negsuc, ◌&&◌, Bool, true, false, List, [], ◌∷◌, ◌++◌, Option, Some, None, if◌then◌else◌}
use Rattle.std.specs.Prelude.{slice_get}
use Rattle.std.specs.List.{All}
use Rattle.std.proofs.lemmas.List.Elements.{All-nil, All-cons, All-head, All-tail}
use Rattle.eos_batch.specs.declared.marker.Kind.{Kind}
use Rattle.eos_batch.specs.declared.marker.Kind.TheVariants.{Abort}
use Rattle.eos_machine.specs.LogIndexes.{Config, target_index, listed}
use Rattle.eos_machine.specs.Switching.{none}
use Rattle.eos_machine.specs.World.{Claim, Status, Empty, Ongoing, Prepare, Complete, Election, Session, Message, World, Event, coord_at, written}
use Rattle.eos_machine.specs.declared.state.Message.TheVariants as messages
use Rattle.eos_machine.specs.declared.event.Event.TheVariants as events
use Rattle.eos_machine.specs.Tests.{is_ongoing, has, ongoing_partitions}
use Rattle.eos_machine.specs.Answers.{Answer, when}
use Rattle.eos_machine.specs.Sessions.{produce, commit_offset, commit, end_session, resume_ended, resume, fetch}
use Rattle.eos_machine.specs.Deliveries.{with_partition, deliver, write_marker, complete_prepared}
use Rattle.eos_machine.specs.Elections.{electable_at, election_of, elect, LosesNothing}
use Rattle.eos_machine.specs.Machine.{add_partition, step, world_after}
use Rattle.eos_machine.specs.steps.Machine.{happens}

abbrev Keeps : World → World → Type 0
Keeps w v = LosesNothing v → LosesNothing w

same : (w : World) → Keeps w w
same w h = h

keeps_if : (w : World) (t : Bool) (x y : Answer) → Keeps w x.0 → Keeps w y.0 → Keeps w (when t x y).0
unfolding when
keeps_if w true x y f g = f
keeps_if w false x y f g = g

keeps_partition : (c : Config) (w : World) (a p : ℕ) → Keeps w (with_partition none c w a p)
keeps_partition c w a p =
    elim (is_ongoing (coord_at w a).status && has p (coord_at w a).partitions) as (λ t. Keeps w (if t then w else written none c w a (record { status = Ongoing; epoch = (coord_at w a).epoch; partitions = listed p (ongoing_partitions (coord_at w a).status (coord_at w a).partitions) }))) [
      | true ↦ same w
      | false ↦ same w
    ]

keeps_deliver : (c : Config) (w : World) (m : ℕ) (r : Option Message) → Keeps w (deliver none c w m r).0
keeps_deliver c w m None = same w
keeps_deliver c w m (Some (messages.Output a e p s x v)) =
    let d = same w in
    keeps_if w _ _ _ d (keeps_if w _ _ _ d (keeps_if w _ _ _ d (keeps_if w _ _ _ d (keeps_if w _ _ _ d (keeps_partition c w a _)))))
keeps_deliver c w m (Some (messages.Offset a e g q v)) =
    let d = same w in
    keeps_if w _ _ _ d (keeps_if w _ _ _ d (keeps_if w _ _ _ d (keeps_if w _ _ _ d (keeps_if w _ _ _ d (keeps_partition c w a 0)))))
keeps_deliver c w m (Some (messages.End a e k)) = let d = same w in keeps_if w _ _ _ d (keeps_if w _ _ _ d (keeps_if w _ _ _ d (keeps_if w _ _ _ d d)))
keeps_deliver c w m (Some (messages.Marker a e k p)) = let d = same w in keeps_if w _ _ _ d (keeps_if w _ _ _ d (keeps_if w _ _ _ d d))

keeps_writing : (c : Config) (w : World) (r : Option Message) → Keeps w (write_marker none c w r).0
keeps_writing c w None = same w
keeps_writing c w (Some (messages.Output a e p s x v)) = same w
keeps_writing c w (Some (messages.Offset a e g q v)) = same w
keeps_writing c w (Some (messages.End a e k)) = same w
keeps_writing c w (Some (messages.Marker a e k p)) = let d = same w in keeps_if w _ _ _ d (keeps_if w _ _ _ d d)

keeps_completed : (c : Config) (w : World) (a : ℕ) (t : Status) → Keeps w (complete_prepared none c w a t).0
keeps_completed c w a Empty = same w
keeps_completed c w a Ongoing = same w
keeps_completed c w a (Prepare k) = keeps_if w _ _ _ (same w) (same w)
keeps_completed c w a (Complete k) = same w

keeps_produce : (c : Config) (w : World) (m p : ℕ) (x : Option Claim) (r : Option Session) → Keeps w (produce c w m p x r).0
keeps_produce c w m p x None = same w
keeps_produce c w m p x (Some s) = keeps_if w _ _ _ (same w) (keeps_if w _ _ _ (same w) (same w))

keeps_offset : (c : Config) (w : World) (m q : ℕ) (v : Option ℕ) (r : Option Session) → Keeps w (commit_offset c w m q v r).0
keeps_offset c w m q v None = same w
keeps_offset c w m q v (Some s) = keeps_if w _ _ _ (same w) (keeps_if w _ _ _ (same w) (same w))

keeps_commit : (c : Config) (w : World) (m q : ℕ) (v : Option ℤ) → Keeps w (commit c w m q v).0
keeps_commit c w m q None = keeps_offset c w m q None (slice_get w.sessions m)
keeps_commit c w m q (Some (pos v)) = keeps_offset c w m q (Some v) (slice_get w.sessions m)
keeps_commit c w m q (Some (negsuc v)) = same w

keeps_end : (w : World) (m : ℕ) (k : Kind) (r : Option Session) → Keeps w (end_session w m k r).0
keeps_end w m k None = same w
keeps_end w m k (Some s) = keeps_if w _ _ _ (same w) (same w)

keeps_ended : (c : Config) (w : World) (m : ℕ) (s : Session) (k : Option Kind) → Keeps w (resume_ended c w m s k).0
keeps_ended c w m s None = same w
keeps_ended c w m s (Some k) = let d = same w in keeps_if w _ _ _ d (keeps_if w _ _ _ d (keeps_if w _ _ _ d d))

keeps_resume : (c : Config) (w : World) (m : ℕ) (r : Option Session) → Keeps w (resume c w m r).0
keeps_resume c w m None = same w
keeps_resume c w m (Some s) = keeps_ended c w m s s.ending

keeps_fetch : (c : Config) (w : World) (q : ℕ) (r : Option Session) → Keeps w (fetch c w q r).0
keeps_fetch c w q None = same w
keeps_fetch c w q (Some s) = let d = same w in keeps_if w _ _ _ d (keeps_if w _ _ _ d (keeps_if w _ _ _ d d))

keeps_added : (c : Config) (w : World) (p : Option ℕ) (r : Option Session) → Keeps w (add_partition none c w p r).0
keeps_added c w p None = same w
keeps_added c w p (Some s) =
    let d = same w in
    keeps_if w _ _ _ d (keeps_if w _ _ _ d (keeps_if w _ _ _ d (keeps_if w _ _ _ d (keeps_partition c w s.application (target_index c s.application p)))))

all_but_last : (xs : List Election) (x : Election) → All (λ y. y.lost ≡ 0) (xs ++ x ∷ []) → All (λ y. y.lost ≡ 0) xs
all_but_last [] x h = All-nil (λ y. y.lost ≡ 0)
all_but_last (y ∷ xs) x h = All-cons (λ z. z.lost ≡ 0) y xs (All-head (λ z. z.lost ≡ 0) y (xs ++ x ∷ []) h) (all_but_last xs x (All-tail (λ z. z.lost ≡ 0) y (xs ++ x ∷ []) h))

keeps_elected : (w : World) (k : ℕ) (r : Option ℕ) → Keeps w (elect w k r).0
keeps_elected w k None = same w
keeps_elected w k (Some p) = keeps_if w _ _ _ (same w) (keeps_if w _ _ _ (same w) (λ h. all_but_last w.elections (election_of w p k) h))

keeps_event : (c : Config) (w : World) (e : Event) → Keeps w (happens c w e).0
keeps_event c w (events.Feed p) = keeps_if w _ _ _ (same w) (same w)
keeps_event c w (events.Start a) = let d = same w in keeps_if w _ _ _ d (keeps_if w _ _ _ d (keeps_if w _ _ _ d (keeps_if w _ _ _ d d)))
keeps_event c w (events.Produce m p x) = keeps_produce c w m p x (slice_get w.sessions m)
keeps_event c w (events.Commit m q v) = keeps_commit c w m q v
keeps_event c w (events.End m k) = keeps_end w m k (slice_get w.sessions m)
keeps_event c w (events.Resume m) = keeps_resume c w m (slice_get w.sessions m)
keeps_event c w (events.Fetch m q) = keeps_fetch c w q (slice_get w.sessions m)
keeps_event c w (events.Members g) = keeps_if w _ _ _ (same w) (same w)
keeps_event c w (events.BrokerRestart t p) = keeps_if w _ _ _ (same w) (same w)
keeps_event c w events.CoordinatorRestart = same w
keeps_event c w (events.Deliver m) = keeps_deliver c w m (slice_get w.messages m)
keeps_event c w (events.TimeOut a) = let d = same w in keeps_if w _ _ _ d (keeps_if w _ _ _ d (keeps_deliver c w 0 (Some (messages.End a (coord_at w a).epoch Abort))))
keeps_event c w (events.AddPartition m p) = keeps_added c w p (slice_get w.sessions m)
keeps_event c w (events.WriteMarker m) = keeps_writing c w (slice_get w.messages m)
keeps_event c w (events.Complete a) = keeps_if w _ _ _ (same w) (keeps_completed c w a (coord_at w a).status)
keeps_event c w (events.Elect t p k) = keeps_elected w k (electable_at c t p)

pub lossless_before : (c : Config) (w : World) (es : List Event) → LosesNothing (world_after c w es) → LosesNothing w
lossless_before c w [] h = h
lossless_before c w (e ∷ es) h = keeps_if w _ _ _ (same w) (keeps_event c w e) (lossless_before c (step c w e).0 es h)
