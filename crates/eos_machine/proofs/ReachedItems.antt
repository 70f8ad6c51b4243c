-- Any list of events, under any switches: what stands in the logs fits the fields of its batches.
use Rattle.std.proofs.Common.{◌≡◌, ℕ, zero, suc, ◌*◌, ◌^◌, ◌<◌, ◌≤◌, ◌==◌, Bool, true, false, List, [], ◌∷◌, length, replicate, refl, arith, slice_index_or}
use Rattle.std.specs.List.{All}
use Rattle.std.proofs.lemmas.List.Elements.{All-nil, All-cons, All-head, All-tail}
use Rattle.std.proofs.lemmas.Bool.{eqb-false}
use Rattle.eos_machine.specs.declared.switches.Switches.{Switches}
use Rattle.eos_machine.specs.declared.config.Config.{Config}
use Rattle.eos_machine.specs.declared.item.Status.{Status}
use Rattle.eos_machine.specs.declared.item.Status.TheVariants.{Empty, Ongoing, Prepare, Complete}
use Rattle.eos_machine.specs.declared.item.Item.{Item}
use Rattle.eos_machine.specs.declared.item.Item.TheVariants.{Fed, State, Output, Offset, Marker}
use Rattle.eos_machine.specs.declared.event.Event.{Event}
use Rattle.eos_machine.specs.declared.event.Event.TheVariants as events
use Rattle.eos_machine.specs.LogIndexes.{IsConfig, application_count, log_count}
use Rattle.eos_machine.specs.World.{World, opening, fresh, log_at}
use Rattle.eos_machine.specs.Answers.{Answer, when}
use Rattle.eos_machine.specs.Bounds.{Limit, IsWithin}
use Rattle.eos_machine.specs.Formed.{IsFormed}
use Rattle.eos_machine.specs.Machine.{happens_under, counted, step_under, world_under}
use Rattle.eos_machine.proofs.BoundedEvents.{bounded_run_under, bounded_opening}
use Rattle.eos_machine.proofs.FormedEvents.{formed_opening, formed_event}
use Rattle.eos_machine.specs.Evidences.{HasRoomForAll}
use Rattle.eos_machine.specs.Fitting.{IsFit}
use Rattle.eos_machine.specs.steps.Writable.{total, IsWritable}
use Rattle.eos_machine.proofs.ListedPlaces.{AreListed, none_listed, all_there}
use Rattle.eos_machine.proofs.KeptItems.{KeptItem, KeptMessage, Kept, TopicIs, log_kept, kept_event}

-- ---- any list of events

pub record IsKept (P : List ℕ → Type 0) (c : Config) (w : World) : Type 0 where
  pub kept : Kept P c (2 * w.events) w
  pub few : w.events ≤ 2 ^ 31
  pub formed : IsFormed c w

step_if : (P : List ℕ → Type 0) (c : Config) (t : Bool) (x y : Answer) → IsKept P c x.0 → (t ≡ false → IsKept P c y.0) → IsKept P c (when t x y).0
unfolding when
step_if P c true x y f g = f
step_if P c false x y f g = g refl

pub kept_step : (P : List ℕ → Type 0) (u : Switches) (c : Config) (w : World) (e : Event) → TopicIs P e → IsKept P c w → IsKept P c (step_under u c w e).0
kept_step P u c w e t h = step_if P c (w.events == 2 ^ 31) _ (counted w.events (happens_under u c w e)) h (λ q. taken (next w.events q h.few))
  where
    next : (n : ℕ) → (n == 2 ^ 31) ≡ false → n ≤ 2 ^ 31 → n < 2 ^ 31
    next n q l = let d = eqb-false n (2 ^ 31) q in grind (arith, d, l)

    taken : w.events < 2 ^ 31 → IsKept P c (counted w.events (happens_under u c w e)).0
    taken l =
        let k = kept_event P c (2 * w.events) u w e l h.formed t h.kept in
        let f = formed_event u c w e h.formed in
        record {
          kept = record { coordinators = k.coordinators; logs = k.logs; messages = k.messages; count = omega (arith, k.count) };
          few = omega (arith, l);
          formed = record { coordinators = f.coordinators; messages = f.messages; sessions = f.sessions; generations = f.generations };
        }

pub kept_run : (P : List ℕ → Type 0) (c : Config) (w : World) (xs : List (Switches × Event)) → All (λ x. TopicIs P x.1) xs → IsKept P c w → IsKept P c (world_under c w xs)
kept_run P c w [] t h = h
kept_run P c w (x ∷ xs) t h = kept_run P c (step_under x.0 c w x.1).0 xs (All-tail (λ y. TopicIs P y.1) x xs t) (kept_step P x.0 c w x.1 (All-head (λ y. TopicIs P y.1) x xs t) h)

all_replicated : {X : Type 0} (P : X → Type 0) (n : ℕ) (x : X) → P x → All P (replicate n x)
all_replicated P zero x h = All-nil P
all_replicated P (suc n) x h = All-cons P x (replicate n x) h (all_replicated P n x h)

none_there : (n : ℕ) → total (replicate n (let e : List Item = [] in e)) ≡ 0
none_there zero = refl
none_there (suc n) = let r = none_there n in omega (arith, r)

pub kept_opening : (P : List ℕ → Type 0) (c : Config) → IsKept P c (opening c)
kept_opening P c = record {
  kept = record {
    coordinators = all_replicated (λ s. AreListed c s.partitions) (application_count c) fresh (none_listed c);
    logs = all_replicated (All (KeptItem P c)) (log_count c) [] (All-nil (KeptItem P c));
    messages = All-nil (KeptMessage P c);
    count = let z = none_there (log_count c) in omega (arith, z);
  };
  few = omega arith;
  formed = formed_opening c;
}

-- ---- whatever a claim's topic is, no longer than a topic may be

abbrev pub IsShort : List ℕ → Type 0
IsShort topic = length topic ≤ 249

any_topic : (e : Event) → TopicIs IsShort e
any_topic (events.Feed p) = tt
any_topic (events.Start a) = tt
any_topic (events.Produce n p x) = λ l. l
any_topic (events.Commit n q v) = tt
any_topic (events.End n k) = tt
any_topic (events.Resume n) = tt
any_topic (events.Fetch n q) = tt
any_topic (events.Members g) = tt
any_topic (events.BrokerRestart t p) = tt
any_topic events.CoordinatorRestart = tt
any_topic (events.Deliver n) = tt
any_topic (events.TimeOut a) = tt
any_topic (events.AddPartition n p) = tt
any_topic (events.WriteMarker n) = tt
any_topic (events.Complete a) = tt
any_topic (events.Elect t p k) = tt

any_topics : (xs : List (Switches × Event)) → All (λ x. TopicIs IsShort x.1) xs
any_topics [] = All-nil (λ x. TopicIs IsShort x.1)
any_topics (x ∷ xs) = All-cons (λ y. TopicIs IsShort y.1) x xs (any_topic x.1) (any_topics xs)

pub kept_reached : (c : Config) (xs : List (Switches × Event)) → IsKept IsShort c (world_under c (opening c) xs)
kept_reached c xs = kept_run IsShort c (opening c) xs (any_topics xs) (kept_opening IsShort c)

-- ---- what fits

limit_small : (t : Status) (e : ℕ) → Limit t e → e < 2 ^ 15
limit_small Empty e h = omega (arith, h)
limit_small Ongoing e h = omega (arith, h)
limit_small (Prepare k) e h = omega (arith, h)
limit_small (Complete k) e h = omega (arith, h)

fit_item : (c : Config) (n : ℕ) (x : Item) → n ≤ 2 ^ 31 → KeptItem IsShort c x → IsWithin n x → IsFit c x
fit_item c n (Fed m) l h w = omega (arith, h)
fit_item c n (State a x m) l h w = (h.0, limit_small x.status x.epoch w, all_there c x.partitions h.1, omega (arith, h.2))
fit_item c n (Output a e s x v m) l h w = (h.0, omega (arith, w.0), omega (arith, w.1, l), h.1, omega (arith, h.2), omega (arith, h.3))
fit_item c n (Offset a e q v m) l h w = (h.0, omega (arith, w), h.1, omega (arith, h.2))
fit_item c n (Marker a e k m) l h w = (h.0, omega (arith, w), omega (arith, h.1))

pub fit_items : (c : Config) (n : ℕ) (xs : List Item) → n ≤ 2 ^ 31 → All (KeptItem IsShort c) xs → All (IsWithin n) xs → All (IsFit c) xs
fit_items c n [] l h w = All-nil (IsFit c)
fit_items c n (x ∷ xs) l h w = All-cons (IsFit c) x xs (fit_item c n x l (All-head (KeptItem IsShort c) x xs h) (All-head (IsWithin n) x xs w)) (fit_items c n xs l (All-tail (KeptItem IsShort c) x xs h) (All-tail (IsWithin n) x xs w))

log_within : (n : ℕ) (ls : List (List Item)) (p : ℕ) → All (All (IsWithin n)) ls → All (IsWithin n) (slice_index_or ls p [])
log_within n [] p h = All-nil (IsWithin n)
log_within n (l ∷ ls) zero h = All-head (All (IsWithin n)) l ls h
log_within n (l ∷ ls) (suc p) h = log_within n ls p (All-tail (All (IsWithin n)) l ls h)

-- each log of a state that events lead to
pub fit_log : (c : Config) (xs : List (Switches × Event)) (p : ℕ) → All (IsFit c) (log_at (world_under c (opening c) xs) p)
fit_log c xs p =
    let w : World = world_under c (opening c) xs in
    let k = kept_reached c xs in
    let b = bounded_run_under c (opening c) xs (bounded_opening c) in
    fit_items c w.events (log_at w p) k.few (log_kept IsShort c (2 * w.events) w p k.kept) (log_within w.events w.logs p b.logs)

-- a log has no more items than all of them
log_total : (ls : List (List Item)) (p : ℕ) → length (slice_index_or ls p []) ≤ total ls
log_total [] p = omega arith
log_total (l ∷ ls) zero = omega arith
log_total (l ∷ ls) (suc p) = let r = log_total ls p in omega (arith, r)

pub logs_short : (c : Config) (xs : List (Switches × Event)) (p : ℕ) → length (log_at (world_under c (opening c) xs) p) < 2 ^ 63
logs_short c xs p =
    let w : World = world_under c (opening c) xs in
    let k = kept_reached c xs in
    let l = log_total w.logs p in
    omega (arith, k.kept.count, k.few, l)

-- within the room there is evidence of it
pub writable : (c : Config) (xs : List (Switches × Event)) → IsConfig c → HasRoomForAll c (world_under c (opening c) xs) → IsWritable c (world_under c (opening c) xs)
writable c xs i r = let k = kept_reached c xs in record {
  sizes = i;
  fit = fit_log c xs;
  short = logs_short c xs;
  elections = (bounded_run_under c (opening c) xs (bounded_opening c)).elections;
  count = k.kept.count;
  room = r;
}
