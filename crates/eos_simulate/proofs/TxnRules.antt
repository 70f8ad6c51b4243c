-- The unskipped records of one application: they follow the table of steps, decide what the machine decides, and end settled.
use Rattle.std.proofs.Common.{◌≡◌, ℕ, zero, suc, ◌+◌, ◌==◌, ℤ, pos, negsuc, Bool, true, false, ◌&&◌, ◌||◌, List, [], ◌∷◌, ◌++◌, map, Option, Some, None, Ok, refl, sym, ap, subst, ◌∙◌, inl, inr, append_assoc}
use Rattle.std.specs.Prelude.{if◌then◌else◌, ⊤}
use Rattle.std.specs.List.{flat_map, cons_option}
use Rattle.std.specs.Ordering.{int_eq}
use Rattle.std.proofs.lemmas.Bool.{and_parts}
use Rattle.std.proofs.lemmas.Bool.Decides.{Decides-int_eq}
use Rattle.eos_base.specs.Members.{Has}
use Rattle.eos_base.proofs.Membership.{append_cases}
use Rattle.eos_batch.specs.declared.marker.Kind.TheVariants.{Commit, Abort}
use Rattle.eos_txnlog.specs.declared.decision.Decision.{Decision}
use Rattle.eos_txnlog.specs.declared.status.Status.{Status as TxnStatus}
use Rattle.eos_txnlog.specs.declared.status.Status.TheVariants as statuses
use Rattle.eos_txnlog.specs.declared.value.TxnValue.{TxnValue}
use Rattle.eos_txnlog.specs.Status.{status_number, same_status, is_open}
use Rattle.eos_txnlog.specs.Skips.{means_nothing, says_the_same, is_skipped}
use Rattle.eos_txnlog.specs.PartitionSets.{is_same_set}
use Rattle.eos_txnlog.specs.Following.{step_verdict}
use Rattle.eos_table.specs.TransactionLog.{Unskipped, flat, is_unfinished, kind_of_status, decided_as, decision_between, decision_of}
use Rattle.eos_machine.specs.declared.config.Config.{Config}
use Rattle.eos_machine.specs.declared.item.Status.{Status}
use Rattle.eos_machine.specs.declared.item.Entry.{Entry}
use Rattle.eos_machine.specs.declared.state.Coordinator.{Coordinator}
use Rattle.eos_machine.specs.declared.item.Item.{Item}
use Rattle.eos_machine.specs.declared.item.Status.TheVariants.{Empty, Ongoing, Prepare, Complete}
use Rattle.eos_machine.specs.declared.item.Item.TheVariants.{Fed, State, Output, Offset, Marker}
use Rattle.eos_machine.specs.World.{state_of}
use Rattle.eos_machine.specs.Application.{Decision as Decided}
use Rattle.eos_machine.specs.Logs.{entries_of, last_state, with_decision, decisions_from}
use Rattle.eos_machine.specs.Tests.{is_ongoing, is_prepare}
use Rattle.eos_machine.specs.Rest.{producer_id, status_of, by_topic, value_of, values_of, EachStep}
use Rattle.eos_machine.proofs.Good.{Moves, Steps}
use Rattle.eos_machine.specs.Batches.{transactional_id}
use Rattle.eos_simulate.proofs.TxnRecords.{step_of, last_after, own_step, own_steps, own_last}

-- ---- statuses

known : ℤ → TxnStatus
known (pos zero) = statuses.Empty
known (pos (suc zero)) = statuses.Ongoing
known (pos (suc (suc zero))) = statuses.PrepareCommit
known (pos (suc (suc (suc zero)))) = statuses.PrepareAbort
known (pos (suc (suc (suc (suc zero))))) = statuses.CompleteCommit
known (pos (suc (suc (suc (suc (suc zero)))))) = statuses.CompleteAbort
known (pos (suc (suc (suc (suc (suc (suc zero))))))) = statuses.Dead
known (pos (suc (suc (suc (suc (suc (suc (suc n)))))))) = statuses.PrepareEpochFence
known (negsuc n) = statuses.Dead

known_is : (t : TxnStatus) → known (status_number t) ≡ t
unfolding known
known_is statuses.Empty = refl
known_is statuses.Ongoing = refl
known_is statuses.PrepareCommit = refl
known_is statuses.PrepareAbort = refl
known_is statuses.CompleteCommit = refl
known_is statuses.CompleteAbort = refl
known_is statuses.Dead = refl
known_is statuses.PrepareEpochFence = refl

same_is : (s t : TxnStatus) → same_status (Some s) (Some t) ≡ true → s ≡ t
same_is s t h = sym (known_is s) ∙ (ap known ((Decides-int_eq (status_number s) (status_number t)).0 h) ∙ known_is t)

says_something : (t : Status) → means_nothing (status_of t) ≡ false
says_something Empty = refl
says_something Ongoing = refl
says_something (Prepare Commit) = refl
says_something (Prepare Abort) = refl
says_something (Complete Commit) = refl
says_something (Complete Abort) = refl

-- ---- a value that stands for another: what the steps look at is equal

pub record IsLike (u v : TxnValue) : Type 0 where
  pub status : u.status ≡ v.status
  pub producer : u.producer ≡ v.producer
  pub epoch : u.epoch ≡ v.epoch

or_second : (a b : Bool) → a ≡ false → (a || b) ≡ true → b ≡ true
or_second true b e h = absurd cc
or_second false b e h = h

same_like : (u v : TxnValue) → means_nothing v.status ≡ false → (means_nothing v.status || says_the_same u v) ≡ true → IsLike u v
same_like u v n h =
    let s : says_the_same u v ≡ true = or_second (means_nothing v.status) (says_the_same u v) n h in
    let a = and_parts (same_status (Some v.status) (Some u.status) && int_eq v.producer u.producer && int_eq v.epoch u.epoch) (is_same_set u.partitions v.partitions) s in
    let b = and_parts (same_status (Some v.status) (Some u.status) && int_eq v.producer u.producer) (int_eq v.epoch u.epoch) a.0 in
    let d = and_parts (same_status (Some v.status) (Some u.status)) (int_eq v.producer u.producer) b.0 in
    record {
      status = sym (same_is v.status u.status d.0);
      producer = sym ((Decides-int_eq v.producer u.producer).0 d.1);
      epoch = sym ((Decides-int_eq v.epoch u.epoch).0 b.1);
    }

-- a record is skipped only after one that it is like
skipped_like : (c : Config) (a : ℕ) (cur : Option (Option TxnValue)) (x : Entry) (n : ℕ) → is_skipped cur (Some (value_of c a x n)) ≡ true → (u : TxnValue) × (cur ≡ Some (Some u)) × IsLike u (value_of c a x n)
skipped_like c a None x n h = absurd (let e = says_something x.status in cc)
skipped_like c a (Some None) x n h = absurd (let e = says_something x.status in cc)
skipped_like c a (Some (Some u)) x n h = (u, refl, same_like u (value_of c a x n) (says_something x.status) h)

-- ---- the steps

abbrev pub Like : Option (Option TxnValue) → Option TxnValue → Type 0
Like None None = ⊤
Like None (Some v) = ⊥
Like (Some None) v = ⊥
Like (Some (Some u)) None = ⊥
Like (Some (Some u)) (Some v) = IsLike u v

like_step : (u v w : TxnValue) → IsLike u v → step_verdict (Some v) (Some w) ≡ Ok tt → step_verdict (Some u) (Some w) ≡ Ok tt
like_step u v w l h = rw (l.status, l.producer, l.epoch) h

step_fits : (cur : Option (Option TxnValue)) (prev : Option TxnValue) (w : TxnValue) → Like cur prev → step_verdict prev (Some w) ≡ Ok tt → step_verdict (flat cur) (Some w) ≡ Ok tt
step_fits None None w l h = h
step_fits None (Some v) w l h = absurd l
step_fits (Some None) prev w l h = absurd l
step_fits (Some (Some u)) None w l h = absurd l
step_fits (Some (Some u)) (Some v) w l h = like_step u v w l h

like_itself : (v : TxnValue) → IsLike v v
like_itself v = record { status = refl; producer = refl; epoch = refl }

like_after : (c : Config) (a : ℕ) (cur : Option (Option TxnValue)) (x : Entry) (n : ℕ) → Like (last_after c a cur x n) (Some (value_of c a x n))
like_after c a cur x n = by (is_skipped cur (Some (value_of c a x n))) refl
  where
    by : (t : Bool) → is_skipped cur (Some (value_of c a x n)) ≡ t → Like (if t then cur else Some (Some (value_of c a x n))) (Some (value_of c a x n))
    by true e = let s = skipped_like c a cur x n e in subst (λ k. Like k (Some (value_of c a x n))) (sym s.1) s.2
    by false e = like_itself (value_of c a x n)

abbrev pub Fits : Unskipped → Type 0
Fits s = step_verdict s.before s.value ≡ Ok tt

one_fits : (c : Config) (a : ℕ) (cur : Option (Option TxnValue)) (prev : Option TxnValue) (num : ℤ) (o : ℕ) (x : Entry) (n : ℕ) → Like cur prev → step_verdict prev (Some (value_of c a x n)) ≡ Ok tt
    → (s : Unskipped) → Has (own_step c a cur num o x n) s → Fits s
one_fits c a cur prev num o x n l h s m = by (is_skipped cur (Some (value_of c a x n))) m
  where
    by : (t : Bool) → Has (if t then [] else step_of c a cur num o x n ∷ []) s → step_verdict s.before s.value ≡ Ok tt
    by true k = absurd k
    by false (inr k) = absurd k
    by false (inl k) = subst (λ (u : Unskipped). step_verdict u.before u.value ≡ Ok tt) k (step_fits cur prev (value_of c a x n) l h)

pub own_follow : (c : Config) (a : ℕ) (cur : Option (Option TxnValue)) (prev : Option TxnValue) (num : ℤ) (o : ℕ) (xs : List Item) → Like cur prev → EachStep prev (values_of c a xs)
    → (s : Unskipped) → Has (own_steps c a cur num o xs) s → step_verdict s.before s.value ≡ Ok tt
own_follow c a cur prev num o [] l h s m = absurd m
own_follow c a cur prev num o (Fed n ∷ xs) l h s m = own_follow c a cur prev num (o + 1) xs l h s m
own_follow c a cur prev num o (Output b e q x v n ∷ xs) l h s m = own_follow c a cur prev num (o + 1) xs l h s m
own_follow c a cur prev num o (Offset b e q v n ∷ xs) l h s m = own_follow c a cur prev num (o + 1) xs l h s m
own_follow c a cur prev num o (Marker b e k n ∷ xs) l h s m = own_follow c a cur prev num (o + 1) xs l h s m
own_follow c a cur prev num o (State b x n ∷ xs) l h s m =
    elim (b == a) as (λ t. EachStep prev (cons_option (if t then Some (value_of c a x n) else None) (values_of c a xs))
    → Has (if t then own_step c a cur num (o + 0) x n ++ own_steps c a (last_after c a cur x n) num (o + 1) xs else own_steps c a cur num (o + 1) xs) s → step_verdict s.before s.value ≡ Ok tt) [
      | true ↦ λ k i. elim (append_cases (own_step c a cur num (o + 0) x n) (own_steps c a (last_after c a cur x n) num (o + 1) xs) s i) [
        | inl y ↦ one_fits c a cur prev num (o + 0) x n l k.0 s y
        | inr y ↦ own_follow c a (last_after c a cur x n) (Some (value_of c a x n)) num (o + 1) xs (like_after c a cur x n) k.1 s y
      ]
      | false ↦ λ k i. own_follow c a cur prev num (o + 1) xs l k s i
    ] h m

-- ---- the state that the last unskipped record leaves

pub record IsTrack (a : ℕ) (u : TxnValue) (s : Coordinator) : Type 0 where
  pub started : s.started ≡ true
  pub status : u.status ≡ status_of s.status
  pub epoch : u.epoch ≡ pos s.epoch

abbrev pub Tracks : ℕ → Option (Option TxnValue) → Coordinator → Type 0
Tracks a None s = (s.started ≡ false) × (s.status ≡ Empty)
Tracks a (Some None) s = ⊥
Tracks a (Some (Some u)) s = IsTrack a u s

track_after : (c : Config) (a : ℕ) (cur : Option (Option TxnValue)) (x : Entry) (n : ℕ) → Tracks a (last_after c a cur x n) (state_of x)
track_after c a cur x n = by (is_skipped cur (Some (value_of c a x n))) refl
  where
    by : (t : Bool) → is_skipped cur (Some (value_of c a x n)) ≡ t → Tracks a (if t then cur else Some (Some (value_of c a x n))) (state_of x)
    by true e = let s = skipped_like c a cur x n e in subst (λ k. Tracks a k (state_of x)) (sym s.1) (record { started = refl; status = s.2.status; epoch = s.2.epoch })
    by false e = record { started = refl; status = refl; epoch = refl }

pub last_tracks : (c : Config) (a : ℕ) (cur : Option (Option TxnValue)) (s : Coordinator) (xs : List Item) → Tracks a cur s → Tracks a (own_last c a cur xs) (last_state s (entries_of a xs))
last_tracks c a cur s [] t = t
last_tracks c a cur s (Fed n ∷ xs) t = last_tracks c a cur s xs t
last_tracks c a cur s (Output b e q x v n ∷ xs) t = last_tracks c a cur s xs t
last_tracks c a cur s (Offset b e q v n ∷ xs) t = last_tracks c a cur s xs t
last_tracks c a cur s (Marker b e k n ∷ xs) t = last_tracks c a cur s xs t
last_tracks c a cur s (State b x n ∷ xs) t =
    elim (b == a) as (λ q. Tracks a (own_last c a (if q then last_after c a cur x n else cur) xs) (last_state s (cons_option (if q then Some x else None) (entries_of a xs)))) [
      | true ↦ last_tracks c a (last_after c a cur x n) (state_of x) xs (track_after c a cur x n)
      | false ↦ last_tracks c a cur s xs t
    ]

not_open : (t : Status) → is_ongoing t ≡ false → is_prepare t ≡ false → is_open (status_of t) ≡ false
not_open Empty o p = refl
not_open Ongoing o p = absurd cc
not_open (Prepare k) o p = absurd cc
not_open (Complete Commit) o p = refl
not_open (Complete Abort) o p = refl

pub track_settled : (a : ℕ) (cur : Option (Option TxnValue)) (s : Coordinator) → Tracks a cur s → is_ongoing s.status ≡ false → is_prepare s.status ≡ false → is_unfinished (flat cur) ≡ false
track_settled a None s t o p = refl
track_settled a (Some None) s t o p = refl
track_settled a (Some (Some u)) s t o p = ap is_open t.status ∙ not_open s.status o p

-- ---- decisions

abbrev pub as_decision : Config → ℕ → Decided → Decision
as_decision c a d = record { id = transactional_id a; producer = producer_id a; epoch = pos d.from; marker_epoch = pos d.to; kind = d.kind; partitions = by_topic c d.partitions }

with_front : (ds : List Decided) (t : Status) (e : ℕ) (x : Entry) → with_decision ds t e x ≡ ds ++ with_decision [] t e x
with_front ds Empty e x = sym (append_none ds)
  where
    append_none : (ds : List Decided) → ds ++ [] ≡ ds
    append_none [] = refl
    append_none (d ∷ ds) = ap (λ l. d ∷ l) (append_none ds)
with_front ds Ongoing e x = sym (append_none ds)
  where
    append_none : (ds : List Decided) → ds ++ [] ≡ ds
    append_none [] = refl
    append_none (d ∷ ds) = ap (λ l. d ∷ l) (append_none ds)
with_front ds (Prepare k) e x = refl
with_front ds (Complete k) e x = sym (append_none ds)
  where
    append_none : (ds : List Decided) → ds ++ [] ≡ ds
    append_none [] = refl
    append_none (d ∷ ds) = ap (λ l. d ∷ l) (append_none ds)

from_front : (ds : List Decided) (s : Coordinator) (xs : List Entry) → decisions_from ds s xs ≡ ds ++ decisions_from [] s xs
from_front ds s [] = sym (append_none ds)
  where
    append_none : (ds : List Decided) → ds ++ [] ≡ ds
    append_none [] = refl
    append_none (d ∷ ds) = ap (λ l. d ∷ l) (append_none ds)
from_front ds s (x ∷ xs) =
    from_front (with_decision ds x.status s.epoch x) (state_of x) xs
    ∙ (ap (λ l. l ++ decisions_from [] (state_of x) xs) (with_front ds x.status s.epoch x)
    ∙ (append_assoc ds (with_decision [] x.status s.epoch x) (decisions_from [] (state_of x) xs)
    ∙ ap (λ l. ds ++ l) (sym (from_front (with_decision [] x.status s.epoch x) (state_of x) xs))))

map_append : {X Y : Type 0} (f : X → Y) (xs ys : List X) → map f (xs ++ ys) ≡ map f xs ++ map f ys
map_append f [] ys = refl
map_append f (x ∷ xs) ys = ap (λ l. f x ∷ l) (map_append f xs ys)

flat_append : {X Y : Type 0} (f : X → List Y) (xs ys : List X) → flat_map f (xs ++ ys) ≡ flat_map f xs ++ flat_map f ys
flat_append f [] ys = refl
flat_append f (x ∷ xs) ys = ap (λ l. f x ++ l) (flat_append f xs ys) ∙ sym (append_assoc (f x) (flat_map f xs) (flat_map f ys))

-- what a record decides, where it is not skipped
one_decides : (c : Config) (a : ℕ) (u : TxnValue) (s : Coordinator) (t : Status) (e n : ℕ) (ps : List ℕ) → u.epoch ≡ pos s.epoch
    → decided_as (transactional_id a) u (value_of c a (record { status = t; epoch = e; partitions = ps }) n) (kind_of_status (status_of t)) ≡ map (as_decision c a) (with_decision [] t s.epoch (record { status = t; epoch = e; partitions = ps }))
one_decides c a u s Empty e n ps q = refl
one_decides c a u s Ongoing e n ps q = refl
one_decides c a u s (Prepare Commit) e n ps q = rw q refl
one_decides c a u s (Prepare Abort) e n ps q = rw q refl
one_decides c a u s (Complete Commit) e n ps q = refl
one_decides c a u s (Complete Abort) e n ps q = refl

first_decides : (c : Config) (a : ℕ) (s : Coordinator) (t : Status) (e : ℕ) (x : Entry) → s.started ≡ false → Moves s.started s.status s.epoch t e → with_decision [] t s.epoch x ≡ []
first_decides c a s t e x f m = by t (subst (λ b. Moves b s.status s.epoch t e) f m)
  where
    by : (t : Status) → Moves false s.status s.epoch t e → with_decision [] t s.epoch x ≡ []
    by Empty k = refl
    by Ongoing k = refl
    by (Prepare l) k = absurd k
    by (Complete l) k = refl

-- a decision isn't skipped
again_decides : (s : Coordinator) (t : Status) (e : ℕ) (x : Entry) → s.started ≡ true → status_of s.status ≡ status_of t → Moves s.started s.status s.epoch t e → with_decision [] t s.epoch x ≡ []
again_decides s t e x f q m = by s.status t q (subst (λ b. Moves b s.status s.epoch t e) f m)
  where
    by : (p t : Status) → status_of p ≡ status_of t → Moves true p s.epoch t e → with_decision [] t s.epoch x ≡ []
    by p Empty k m = refl
    by p Ongoing k m = refl
    by p (Complete l) k m = refl
    by Empty (Prepare Commit) k m = absurd cc
    by Empty (Prepare Abort) k m = absurd cc
    by Ongoing (Prepare Commit) k m = absurd cc
    by Ongoing (Prepare Abort) k m = absurd cc
    by (Prepare j) (Prepare l) k m = absurd m
    by (Complete Commit) (Prepare Commit) k m = absurd cc
    by (Complete Commit) (Prepare Abort) k m = absurd cc
    by (Complete Abort) (Prepare Commit) k m = absurd cc
    by (Complete Abort) (Prepare Abort) k m = absurd cc

step_decides : (c : Config) (a : ℕ) (cur : Option (Option TxnValue)) (s : Coordinator) (num : ℤ) (o : ℕ) (x : Entry) (n : ℕ) → Tracks a cur s → Moves s.started s.status s.epoch x.status x.epoch
    → flat_map decision_of (own_step c a cur num o x n) ≡ map (as_decision c a) (with_decision [] x.status s.epoch x)
step_decides c a cur s num o x n t m = by (is_skipped cur (Some (value_of c a x n))) refl
  where
    single : {X : Type 0} (xs : List X) → xs ++ [] ≡ xs
    single [] = refl
    single (y ∷ ys) = ap (λ l. y ∷ l) (single ys)

    fresh_or : (cur : Option (Option TxnValue)) → Tracks a cur s → decision_between (transactional_id a) (flat cur) (Some (value_of c a x n)) ≡ map (as_decision c a) (with_decision [] x.status s.epoch x)
    fresh_or None k = sym (ap (map (as_decision c a)) (first_decides c a s x.status x.epoch x k.0 m))
    fresh_or (Some None) k = absurd k
    fresh_or (Some (Some u)) k = one_decides c a u s x.status x.epoch n x.partitions k.epoch

    by : (q : Bool) → is_skipped cur (Some (value_of c a x n)) ≡ q → flat_map decision_of (if q then [] else step_of c a cur num o x n ∷ []) ≡ map (as_decision c a) (with_decision [] x.status s.epoch x)
    by true e =
        let k = skipped_like c a cur x n e in
        let r : IsTrack a k.0 s = subst (λ j. Tracks a j s) k.1 t in
        sym (ap (map (as_decision c a)) (again_decides s x.status x.epoch x r.started (sym r.status ∙ k.2.status) m))
    by false e = single (decision_between (transactional_id a) (flat cur) (Some (value_of c a x n))) ∙ fresh_or cur t

pub own_decide : (c : Config) (a : ℕ) (cur : Option (Option TxnValue)) (s : Coordinator) (num : ℤ) (o : ℕ) (xs : List Item) → Tracks a cur s → Steps s (entries_of a xs)
    → flat_map decision_of (own_steps c a cur num o xs) ≡ map (as_decision c a) (decisions_from [] s (entries_of a xs))
own_decide c a cur s num o [] t h = refl
own_decide c a cur s num o (Fed n ∷ xs) t h = own_decide c a cur s num (o + 1) xs t h
own_decide c a cur s num o (Output b e q x v n ∷ xs) t h = own_decide c a cur s num (o + 1) xs t h
own_decide c a cur s num o (Offset b e q v n ∷ xs) t h = own_decide c a cur s num (o + 1) xs t h
own_decide c a cur s num o (Marker b e k n ∷ xs) t h = own_decide c a cur s num (o + 1) xs t h
own_decide c a cur s num o (State b x n ∷ xs) t h =
    elim (b == a) as (λ q. Steps s (cons_option (if q then Some x else None) (entries_of a xs))
    → flat_map decision_of (if q then own_step c a cur num (o + 0) x n ++ own_steps c a (last_after c a cur x n) num (o + 1) xs else own_steps c a cur num (o + 1) xs)
    ≡ map (as_decision c a) (decisions_from [] s (cons_option (if q then Some x else None) (entries_of a xs)))) [
      | true ↦ λ k.
          flat_append decision_of (own_step c a cur num (o + 0) x n) (own_steps c a (last_after c a cur x n) num (o + 1) xs)
          ∙ (ap (λ l. l ++ flat_map decision_of (own_steps c a (last_after c a cur x n) num (o + 1) xs)) (step_decides c a cur s num (o + 0) x n t k.0)
          ∙ (ap (λ l. map (as_decision c a) (with_decision [] x.status s.epoch x) ++ l) (own_decide c a (last_after c a cur x n) (state_of x) num (o + 1) xs (track_after c a cur x n) k.1)
          ∙ (sym (map_append (as_decision c a) (with_decision [] x.status s.epoch x) (decisions_from [] (state_of x) (entries_of a xs)))
          ∙ ap (map (as_decision c a)) (sym (from_front (with_decision [] x.status s.epoch x) (state_of x) (entries_of a xs))))))
      | false ↦ λ k. own_decide c a cur s num (o + 1) xs t k
    ] h
