-- A cluster that some list of events leads to: what holds of it, and an event more.
use Rattle.std.proofs.Common.{◌≡◌, ◌++◌, ◌∷◌, [], ℕ, zero, suc, ◌+◌, ◌<◌, ◌≤◌, ◌^◌, ◌==◌, false, true, Bool, List, ◌∙◌, sym, ap, subst, arith, refl, Some, inl, inr}
use Rattle.std.specs.Prelude.{slice_get}
use Rattle.std.specs.List.{All}
use Rattle.std.proofs.lemmas.Bool.{cases_lt, ne_eqb}
use Rattle.std.proofs.lemmas.List.Elements.{All-head, All-tail, All-weaker}
use Rattle.eos_machine.specs.declared.config.Config.{Config}
use Rattle.eos_machine.specs.declared.state.Message.{Message}
use Rattle.eos_machine.specs.declared.state.Session.{Session}
use Rattle.eos_machine.specs.declared.switches.Switches.{Switches}
use Rattle.eos_machine.specs.Switching.{none}
use Rattle.eos_machine.specs.declared.event.Event.{Event}
use Rattle.eos_machine.specs.declared.event.Event.TheVariants as events
use Rattle.eos_machine.specs.declared.event.Reply.{Reply}
use Rattle.eos_machine.specs.declared.event.Reply.TheVariants.{Done, Fenced, OutOfOrder, DuplicateKept, WrongState, Busy, StaleGeneration, EpochsSpent, Unknown, OutOfMemory, Full}
use Rattle.eos_machine.specs.LogIndexes.{IsConfig, txn_index}
use Rattle.eos_machine.specs.World.{World, opening, log_at}
use Rattle.eos_machine.specs.Answers.{Answer, when}
use Rattle.eos_machine.specs.Elections.{LosesNothing}
use Rattle.eos_machine.specs.Machine.{happens_under, counted, step_under, step, world_under, world_after}
use Rattle.eos_machine.specs.Bounds.{Bounded, IsSafe}
use Rattle.eos_machine.specs.Formed.{Names, IsFormed}
use Rattle.eos_machine.proofs.Good.{Good}
use Rattle.eos_machine.proofs.GoodEvents.{good_run}
use Rattle.eos_machine.specs.Rest.{IsAtRest, KeepsSequences, StepsFit, AllAtomic, NeighboursFit}
use Rattle.eos_machine.proofs.Resting.{good_opening, rest_is_atomic}
use Rattle.eos_machine.proofs.TouchRules.{keeps_sequences, neighbours_fit}
use Rattle.eos_machine.proofs.StepRules.{all_steps}
use Rattle.eos_machine.proofs.BoundedEvents.{bounded_run_under, bounded_opening, epoch_top, generation_within}
use Rattle.eos_machine.proofs.FormedEvents.{formed_run, formed_opening}
use Rattle.eos_machine.proofs.Counting.{IsCounted, counted_run, counted_opening}
use Rattle.eos_evidence.specs.Evidence.{EvidenceParts}
use Rattle.eos_machine.specs.Evidences.{IsEvidenceOf, HasRoomForAll}
use Rattle.eos_machine.specs.steps.Writable.{IsWritable}
use Rattle.eos_machine.proofs.ReachedItems.{writable}
use Rattle.eos_machine.specs.Schedules.{IsOfSchedule}
use Rattle.eos_broker.specs.steps.Proper.{IsProper}
use Rattle.eos_cluster.specs.Courses.{Course, IsTaken, IsTakenUnder, UnlessMemory, IsStep, IsStepUnder, IsCounted as IsCountedStep, IsReached, IsReachedUnder}
use Rattle.eos_broker.specs.Named.{IsNamed, IsSmall}
use Rattle.eos_broker.specs.steps.Named.{Needs}
use Rattle.eos_broker.specs.Held.{Held, becomes}

-- ---- what holds

pub is_good : (c : Config) (w : World) → IsConfig c → IsReached c w → LosesNothing w → Good c w
is_good c w i r n = subst (Good c) (sym r.world_after) (good_run c (opening c) r.taken i (good_opening c) (subst LosesNothing r.world_after n))

is_bounded : (c : Config) (w : World) → IsReachedUnder c w → Bounded w.events w
is_bounded c w r = subst (λ (v : World). Bounded v.events v) (sym r.world_after) (bounded_run_under c (opening c) r.taken (bounded_opening c))

is_formed : (c : Config) (w : World) → IsReachedUnder c w → IsFormed c w
is_formed c w r = subst (IsFormed c) (sym r.world_after) (formed_run c (opening c) r.taken (formed_opening c))

-- ---- the theorem on every schedule

pub keeps_sequences_there : (c : Config) (w : World) → IsConfig c → IsReached c w → LosesNothing w → KeepsSequences c w
keeps_sequences_there c w i r n = keeps_sequences c w (is_good c w i r n) (subst IsCounted (sym r.world_after) (counted_run c (opening c) r.taken (counted_opening c)))

pub steps_fit_there : (c : Config) (w : World) → IsConfig c → IsReached c w → LosesNothing w → StepsFit c w
steps_fit_there c w i r n = λ a. all_steps c a (log_at w (txn_index c a)) ((is_good c w i r n).steps a)

pub atomic_there : (c : Config) (w : World) → IsConfig c → IsReached c w → LosesNothing w → IsAtRest w → AllAtomic c w
atomic_there c w i r n h = rest_is_atomic c w (is_good c w i r n) h

pub neighbours_fit_there : (c : Config) (w : World) → IsConfig c → IsReached c w → LosesNothing w → IsAtRest w → NeighboursFit c w
neighbours_fit_there c w i r n h = neighbours_fit c w (keeps_sequences_there c w i r n) (atomic_there c w i r n h)

pub of_schedule : (c : Config) (w : World) (e : EvidenceParts) → IsConfig c → IsReached c w → LosesNothing w → IsAtRest w → IsEvidenceOf c w e → IsOfSchedule e
of_schedule c w e i r n h k = record { config = c; world = w; events = r.taken; sizes = i; world_after = r.world_after; lossless = n; rest = h; evidence = k }

-- within the room there is evidence of it
pub writable_there : (c : Config) (w : World) → IsConfig c → IsReachedUnder c w → HasRoomForAll c w → IsWritable c w
writable_there c w i r h = subst (IsWritable c) (sym r.world_after) (writable c r.taken i (subst (HasRoomForAll c) r.world_after h))

-- ---- what an event needs

named : (c : Config) (ms : List Message) (n : ℕ) → All (Names c) ms → IsNamed c (slice_get ms n)
named c [] n h = tt
named c (m ∷ ms) zero h = All-head (Names c) m ms h
named c (m ∷ ms) (suc n) h = named c ms n (All-tail (Names c) m ms h)

small_in : (n : ℕ) (s : Session) → n < 2 ^ 31 → IsSafe n s → IsSmall (Some s)
small_in n s l h = (let e = h.0 in omega (arith, e), All-weaker (λ q. q ≤ n) (λ q. q < 2 ^ 31) (λ q k. omega (arith, k, l)) s.sequences h.1)

small_at : (n : ℕ) (ss : List Session) (k : ℕ) → n < 2 ^ 31 → All (IsSafe n) ss → IsSmall (slice_get ss k)
small_at n [] k l h = tt
small_at n (s ∷ ss) zero l h = small_in n s l (All-head (IsSafe n) s ss h)
small_at n (s ∷ ss) (suc k) l h = small_at n ss k l (All-tail (IsSafe n) s ss h)

pub named_there : (c : Config) (w : World) (n : ℕ) → IsReachedUnder c w → IsNamed c (slice_get w.messages n)
named_there c w n r = named c w.messages n (is_formed c w r).messages

pub needs : (c : Config) (w : World) (e : Event) → w.events < 2 ^ 31 → IsReachedUnder c w → Needs c w e
needs c w e l r = at e (is_bounded c w r) (is_formed c w r)
  where
    at : (e : Event) → Bounded w.events w → IsFormed c w → Needs c w e
    at (events.Feed p) b f = tt
    at (events.Start a) b f = epoch_top w.events w a b
    at (events.Produce n p x) b f = small_at w.events w.sessions n l b.sessions
    at (events.Commit n q v) b f = tt
    at (events.End n k) b f = tt
    at (events.Resume n) b f = small_at w.events w.sessions n l b.sessions
    at (events.Fetch n q) b f = tt
    at (events.Members g) b f = let k = generation_within w.events w g b in omega (arith, k, l)
    at (events.BrokerRestart t p) b f = tt
    at events.CoordinatorRestart b f = tt
    at (events.Deliver n) b f = (named c w.messages n f.messages, f.coordinators, λ a. epoch_top w.events w a b)
    at (events.TimeOut a) b f = (f.coordinators, epoch_top w.events w a b)
    at (events.AddPartition n p) b f = tt
    at (events.WriteMarker n) b f = named c w.messages n f.messages
    at (events.Complete a) b f = tt
    at (events.Elect t p k) b f = tt

-- ---- an event more

run_more : (c : Config) (w : World) (es : List Event) (e : Event) → world_after c w (es ++ e ∷ []) ≡ (step c (world_after c w es) e).0
run_more c w [] e = refl
run_more c w (d ∷ es) e = run_more c (step c w d).0 es e

not_full : (n : ℕ) (x y : Answer) → n < 2 ^ 31 → when (n == 2 ^ 31) x y ≡ y
unfolding when
not_full n x y l = at (n == 2 ^ 31) (ne_eqb n (2 ^ 31) (λ m. omega (arith, m, l)))
  where
    at : (t : Bool) → t ≡ false → when t x y ≡ y
    at true h = absurd cc
    at false h = refl

is_full : (n : ℕ) (x y : Answer) → n ≡ 2 ^ 31 → when (n == 2 ^ 31) x y ≡ x
unfolding when
is_full n x y e = rw e refl

one_step : (u : Switches) (c : Config) (w v : World) (e : Event) (r : Reply) → w.events < 2 ^ 31 → (v, r) ≡ happens_under u c w e → (record v { events = w.events + 1 }, r) ≡ step_under u c w e
one_step u c w v e r l h = ap (counted w.events) h ∙ sym (not_full w.events (w, Full) (counted w.events (happens_under u c w e)) l)

pub full_step : (u : Switches) (c : Config) (w : World) (e : Event) → w.events ≡ 2 ^ 31 → (w, Full) ≡ step_under u c w e
full_step u c w e h = sym (is_full w.events (w, Full) (counted w.events (happens_under u c w e)) h)

-- the reply to an event is that of its happening, unless the cluster is full
pub happens_reply : (c : Config) (w : World) (e : Event) → (w.events ≡ 2 ^ 31 → ⊥) → w.events ≤ 2 ^ 31 → (step c w e).1 ≡ (happens_under none c w e).1
happens_reply c w e other most = ap (λ (x : Answer). x.1) (not_full w.events (w, Full) (counted w.events (happens_under none c w e)) (below w.events other most))
  where
    below : (n : ℕ) → (n ≡ 2 ^ 31 → ⊥) → n ≤ 2 ^ 31 → n < 2 ^ 31
    below n other most = elim (cases_lt n (2 ^ 31)) [
      | inl less ↦ less
      | inr more ↦ absurd (other (omega (arith, most, more)))
    ]

pub full_reply : (c : Config) (w : World) (e : Event) → w.events ≡ 2 ^ 31 → (step c w e).1 ≡ Full
full_reply c w e h = ap (λ (x : Answer). x.1) (is_full w.events (w, Full) (counted w.events (happens_under none c w e)) h)

run_more_under : (c : Config) (w : World) (xs : List (Switches × Event)) (u : Switches) (e : Event) → world_under c w (xs ++ (u, e) ∷ []) ≡ (step_under u c (world_under c w xs) e).0
run_more_under c w [] u e = refl
run_more_under c w (x ∷ xs) u e = run_more_under c (step_under x.0 c w x.1).0 xs u e

pub reached_under : (u : Switches) (c : Config) (w v : World) (e : Event) (r : Reply) → IsReachedUnder c w → (v, r) ≡ step_under u c w e → IsReachedUnder c v
reached_under u c w v e r h a = record {
  taken = h.taken ++ (u, e) ∷ [];
  world_after = ap (λ x. x.0) a ∙ (ap (λ z. (step_under u c z e).0) h.world_after ∙ sym (run_more_under c (opening c) h.taken u e));
}

pub reached_more : (c : Config) (w v : World) (e : Event) (r : Reply) → IsReached c w → (v, r) ≡ step c w e → IsReached c v
reached_more c w v e r h a = record {
  taken = h.taken ++ e ∷ [];
  world_after = ap (λ x. x.0) a ∙ (ap (λ u. (step c u e).0) h.world_after ∙ sym (run_more c (opening c) h.taken e));
}

pub step_taken : (A B : Type 0) (r : Reply) → IsProper r → B → UnlessMemory r A B
step_taken A B (Done n) p h = h
step_taken A B Fenced p h = h
step_taken A B OutOfOrder p h = h
step_taken A B DuplicateKept p h = h
step_taken A B WrongState p h = h
step_taken A B Busy p h = h
step_taken A B StaleGeneration p h = h
step_taken A B EpochsSpent p h = h
step_taken A B Unknown p h = h
step_taken A B OutOfMemory p h = absurd p
step_taken A B Full p h = absurd p

-- ---- with no switch

unless_other : (A B C : Type 0) (r : Reply) → (B → C) → UnlessMemory r A B → UnlessMemory r A C
unless_other A B C (Done n) f h = f h
unless_other A B C Fenced f h = f h
unless_other A B C OutOfOrder f h = f h
unless_other A B C DuplicateKept f h = f h
unless_other A B C WrongState f h = f h
unless_other A B C Busy f h = f h
unless_other A B C StaleGeneration f h = f h
unless_other A B C EpochsSpent f h = f h
unless_other A B C Unknown f h = f h
unless_other A B C OutOfMemory f h = h
unless_other A B C Full f h = f h

pub honest_step : (s : Course) (e : Event) (r : Reply) (t : Course) → s.switches ≡ none → IsStepUnder s e r t → IsStep s e r t
honest_step s e r t n h = unless_other (t ≡ s) (IsTakenUnder s e r t) (IsTaken s e r t) r
    (λ k. (ap (λ (x : Course). x.config) k.0, subst (λ u. (t.world, r) ≡ step_under u s.config s.world e) n k.1)) h

abbrev course : Config → World → Switches → Bool → Course
course c w u b = record { config = c; world = w; switches = u; honest = b }

abbrev answer : World → Reply → Answer
answer w r = (w, r)

-- a reply that is proper says that the event was counted
pub is_counted : (s : Course) (r : Reply) (t : Course) → IsProper r → t.world.events ≡ s.world.events + 1 → IsCountedStep s r t
is_counted s (Done n) t p h = h
is_counted s Fenced t p h = h
is_counted s OutOfOrder t p h = h
is_counted s DuplicateKept t p h = h
is_counted s WrongState t p h = h
is_counted s Busy t p h = h
is_counted s StaleGeneration t p h = h
is_counted s EpochsSpent t p h = h
is_counted s Unknown t p h = h
is_counted s OutOfMemory t p h = absurd p
is_counted s Full t p h = absurd p

-- the event has happened and is counted
pub taken_one : (u : Switches) (h g k : Held) (e : Event) (r : Reply) (n : ℕ) → n ≡ h.world.events → h.world.events < 2 ^ 31 → (g.world, r) ≡ happens_under u h.config h.world e → g.config ≡ h.config → k ≡ becomes g (record g.world { events = n + 1 }) 0
    → (k.config ≡ h.config) × ((k.world, r) ≡ step_under u h.config h.world e)
taken_one u h g k e r n m l ok config set = (
  ap (λ (x : Held). x.config) set ∙ config,
  ap (λ (x : Held). answer x.world r) set ∙ (ap (λ (i : ℕ). answer (record g.world { events = i + 1 }) r) m ∙ one_step u h.config h.world g.world e r l ok),
)

pub counted_one : (h g k : Held) (n : ℕ) → n ≡ h.world.events → k ≡ becomes g (record g.world { events = n + 1 }) 0 → k.world.events ≡ h.world.events + 1
counted_one h g k n m set = ap (λ (x : Held). x.world.events) set ∙ ap (λ i. i + 1) m

-- the switches and whether it is honest stay
pub course_of : {c d : Config} {w : World} (u : Switches) (b : Bool) → c ≡ d → course c w u b ≡ course d w u b
course_of {w = w} u b e = ap (λ x. course x w u b) e

pub step_honest : (u : Switches) (c : Config) (w v : World) (e : Event) (r : Reply) → u ≡ none → (v, r) ≡ step_under u c w e → (v, r) ≡ step c w e
step_honest u c w v e r n h = subst (λ z. (v, r) ≡ step_under z c w e) n h
