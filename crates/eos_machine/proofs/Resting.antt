-- A cluster at rest is atomic.
use Rattle.std.proofs.Common.{◌≡◌, ℕ, zero, suc, ◌+◌, ◌<◌, ◌≤◌, List, [], ◌∷◌, length, replicate, slice_index_or, Option, Some, None, refl, sym, ap, subst, arith, ◌∙◌, inl, inr, ◌⊎◌}
use Rattle.std.specs.List.{All, AllPairs, Contains}
use Rattle.std.proofs.lemmas.List.Elements.{All-nil, All-cons, All-head, All-tail, All-weaker, All-contains}
use Rattle.std.proofs.lemmas.List.Kept.{AllPairs-cons}
use Rattle.std.proofs.lemmas.Bool.{cases_lt}
use Rattle.std.proofs.lemmas.List.{length-replicate}
use Rattle.eos_batch.specs.declared.marker.Kind.{Kind}
use Rattle.eos_machine.specs.LogIndexes.{Config, application_count, txn_index, log_count, is_sequenced}
use Rattle.eos_machine.specs.World.{World, Empty, fresh, opening, coord_at, log_at}
use Rattle.eos_machine.specs.Application.{Mark, Batch, End, Decision, HasOneKind, NoneWhileOpen, first_end, IsOrdered, IsClosed, Fate, Matched, Never}
use Rattle.eos_machine.specs.Logs.{marks_of, entries_of, decisions_from}
use Rattle.eos_machine.specs.Rest.{IsAtRest, decisions_of, AllAtomic}
use Rattle.eos_machine.proofs.Apps.{App, Delivered, Invariant}
use Rattle.eos_machine.proofs.AppSteps.{IsSettled, matched_weaker, never_open, there, not_prepared, nothing_keeps}
use Rattle.eos_machine.proofs.Brokers.{broker_none}
use Rattle.eos_machine.proofs.Good.{app_of, IsPlace, IsOfOne, IsDue, Good}
use Rattle.eos_machine.proofs.GoodEvents.{settled}

-- ---- the opening state

same_everywhere : {X : Type 0} (n : ℕ) (x : X) (i : ℕ) → slice_index_or (replicate n x) i x ≡ x
same_everywhere zero x i = refl
same_everywhere (suc n) x zero = refl
same_everywhere (suc n) x (suc i) = same_everywhere n x i

pub no_log : (c : Config) (p : ℕ) → log_at (opening c) p ≡ []
no_log c p = same_everywhere (log_count c) [] p

no_coord : (c : Config) (a : ℕ) → coord_at (opening c) a ≡ fresh
no_coord c a = same_everywhere (application_count c) fresh a

pub good_opening : (c : Config) → Good c (opening c)
good_opening c = record {
  apps = λ a. subst (λ (s : App). Invariant s) (sym (app_none a)) (nothing_keeps (λ p. []) 0 (λ p. refl));
  brokers = λ a p. rw (no_log c p) (broker_none (is_sequenced c p));
  due = All-nil (IsDue c (opening c));
  read = λ a. rw (no_coord c a, no_log c (txn_index c a)) (record { started = refl; status = refl; epoch = refl; partitions = refl });
  steps = λ a. rw (no_log c (txn_index c a)) tt;
  places = λ a. rw (no_coord c a) (All-nil (IsPlace c));
  sessions = All-nil (IsOfOne c);
  coordinators = length-replicate (application_count c) fresh;
  logs = length-replicate (log_count c) [];
}
  where
    app_none : (a : ℕ) → app_of c (opening c) a ≡ record { status = Empty; epoch = 0; partitions = []; awaited = []; decisions = []; marks = λ p. [] }
    app_none a = λ i. record {
      status = (no_coord c a i).status;
      epoch = (no_coord c a i).epoch;
      partitions = (no_coord c a i).partitions;
      awaited = (no_coord c a i).awaited;
      decisions = decisions_from [] fresh (entries_of a (no_log c (txn_index c a) i));
      marks = λ p. marks_of a (no_log c p i);
    }

-- ---- decisions of one epoch are one

-- an earlier decision has a lesser marker epoch
before : (s : App) → Invariant s → (i j : ℕ) (d : Decision) → i < j → j < length s.decisions → (slice_index_or s.decisions i d).to < (slice_index_or s.decisions j d).to
before s h i j d l k = let a = h.rising i j d l k in let b = h.raised j d k in omega arith

one_decision : (s : App) (x y : Decision) → Invariant s → Contains s.decisions x → Contains s.decisions y → x.to ≡ y.to → x ≡ y
one_decision s x y h u v e = at (cases_lt u.0 v.0)
  where
    same_at : (i : ℕ) (d c : Decision) → i < length s.decisions → slice_index_or s.decisions i d ≡ slice_index_or s.decisions i c
    same_at i d c l = any_default s.decisions i d c l
      where
        any_default : (xs : List Decision) (i : ℕ) (d c : Decision) → i < length xs → slice_index_or xs i d ≡ slice_index_or xs i c
        any_default [] i d c l = absurd (omega arith)
        any_default (x ∷ xs) zero d c l = refl
        any_default (x ∷ xs) (suc i) d c l = any_default xs i d c (omega arith)

    ex : (d : Decision) → slice_index_or s.decisions u.0 d ≡ x
    ex d = same_at u.0 d x u.1 ∙ u.2

    ey : (d : Decision) → slice_index_or s.decisions v.0 d ≡ y
    ey d = same_at v.0 d y v.1 ∙ v.2

    at : (u.0 < v.0) ⊎ (v.0 ≤ u.0) → x ≡ y
    at (inl l) = absurd (let w = before s h u.0 v.0 x l v.1 in let p = ap (λ (d : Decision). d.to) (ex x) in let q = ap (λ (d : Decision). d.to) (ey x) in omega (arith, e))
    at (inr l) = elim (cases_lt v.0 u.0) [
      | inl m ↦ absurd (let w = before s h v.0 u.0 x m u.1 in let p = ap (λ (d : Decision). d.to) (ex x) in let q = ap (λ (d : Decision). d.to) (ey x) in omega (arith, e))
      | inr m ↦ let same : u.0 ≡ v.0 = omega arith in sym (ex x) ∙ (ap (λ (i : ℕ). slice_index_or s.decisions i x) same ∙ ey x)
    ]

one_kind_of : (s : App) (p q m : ℕ) (k l : Kind) → Invariant s → IsOrdered s.decisions p m k → IsOrdered s.decisions q m l → k ≡ l
one_kind_of s p q m k l h a b =
    let e : a.decision ≡ b.decision = one_decision s a.decision b.decision h a.member b.member (a.to ∙ sym b.to) in
    sym a.kind ∙ (ap (λ (d : Decision). d.kind) e ∙ b.kind)

-- ---- marks

-- a marker of the list was decided
abbrev pub OrderedIf : List Decision → ℕ → Mark → Type 0
OrderedIf ds p (Batch e y) = Unit {0}
OrderedIf ds p (End m k) = IsOrdered ds p m k

all_ordered : (O : ℕ → Type 0) (ds : List Decision) (p : ℕ) (ts : List Mark) → Matched O ds p ts → All (OrderedIf ds p) ts
all_ordered O ds p [] h = All-nil (OrderedIf ds p)
all_ordered O ds p (Batch e y ∷ ts) h = All-cons (OrderedIf ds p) (Batch e y) ts tt (all_ordered O ds p ts h.1)
all_ordered O ds p (End m k ∷ ts) h = All-cons (OrderedIf ds p) (End m k) ts h.0 (all_ordered O ds p ts h.1)

kinds_of : (s : App) (p : ℕ) (t u : Mark) → Invariant s → OrderedIf s.decisions p t → OrderedIf s.decisions p u → HasOneKind t u
kinds_of s p (Batch e y) u h a b = tt
kinds_of s p (End e k) (Batch f z) h a b = tt
kinds_of s p (End e k) (End f l) h a b = λ q. one_kind_of s p p f k l h (subst (λ (m : ℕ). IsOrdered s.decisions p m k) q a) b

pair_kinds : (s : App) (p : ℕ) (ts : List Mark) → Invariant s → All (OrderedIf s.decisions p) ts → AllPairs HasOneKind ts
pair_kinds s p [] h a = λ i j d l k. absurd (omega arith)
pair_kinds s p (t ∷ ts) h a = AllPairs-cons HasOneKind t ts
    (All-weaker (OrderedIf s.decisions p) (HasOneKind t) (λ u b. kinds_of s p t u h (All-head (OrderedIf s.decisions p) t ts a) b) ts (All-tail (OrderedIf s.decisions p) t ts a))
    (pair_kinds s p ts h (All-tail (OrderedIf s.decisions p) t ts a))

-- the epoch of closed data is one below its marker's
below_marker : (ds : List Decision) (p e m : ℕ) (k : Kind) → All (λ d. d.to ≡ d.from + 1) ds → IsClosed ds p e m k → m ≡ e + 1
below_marker ds p e m k h c = let r = All-contains (λ d. d.to ≡ d.from + 1) ds c.ordered.decision h c.ordered.member in omega (arith, r, c.from, c.ordered.to)

same_epoch : (ds : List Decision) (p e f : ℕ) (r : Option (ℕ × Kind)) → All (λ d. d.to ≡ d.from + 1) ds → Fate Never ds p e r → Fate Never ds p f r → e ≡ f
same_epoch ds p e f None h a b = absurd a
same_epoch ds p e f (Some m) h a b = let x = below_marker ds p e m.0 m.1 h a in let y = below_marker ds p f m.0 m.1 h b in omega arith

none_open_at : (ds : List Decision) (p : ℕ) (ts : List Mark) → All (λ d. d.to ≡ d.from + 1) ds → Matched Never ds p ts → NoneWhileOpen ts
none_open_at ds p [] h m = tt
none_open_at ds p (End e k ∷ ts) h m = none_open_at ds p ts h m.1
none_open_at ds p (Batch e y ∷ []) h m = tt
none_open_at ds p (Batch e y ∷ End f k ∷ ts) h m = none_open_at ds p (End f k ∷ ts) h m.1
none_open_at ds p (Batch e y ∷ Batch f z ∷ ts) h m = (same_epoch ds p e f (first_end ts) h m.0 m.1.0, none_open_at ds p (Batch f z ∷ ts) h m.1)

-- ---- at rest

pub rest_is_atomic : (c : Config) (w : World) → Good c w → IsAtRest w → AllAtomic c w
rest_is_atomic c w g rest a =
    let h : Invariant (app_of c w a) = g.apps a in
    let i : IsSettled (coord_at w a).status = settled (coord_at w a).status (rest a).0 (rest a).1 in
    let m : (p : ℕ) → Matched Never (decisions_of c w a) p (marks_of a (log_at w p)) =
    λ p. matched_weaker _ Never (decisions_of c w a) p (marks_of a (log_at w p)) (λ e o. never_open (coord_at w a).status (coord_at w a).epoch (coord_at w a).partitions (coord_at w a).awaited p e i o) (h.matched p) in
    record {
      order = λ p. (g.brokers a p).order;
      one_kind = λ p. pair_kinds (app_of c w a) p (marks_of a (log_at w p)) h (all_ordered Never (decisions_of c w a) p (marks_of a (log_at w p)) (m p));
      none_while_open = λ p. none_open_at (decisions_of c w a) p (marks_of a (log_at w p)) h.raised (m p);
      once = λ i j d l k. let x = h.rising i j d l k in let y = h.raised i d (omega arith) in (λ q. absurd (omega (arith, q)));
      matched = m;
      delivered = All-weaker (λ d. (p : ℕ) → Contains d.partitions p → Delivered (app_of c w a) d p) (λ d. (p : ℕ) → Contains d.partitions p → Contains (marks_of a (log_at w p)) (End d.to d.kind)) (λ d l p k. there (app_of c w a) d p (not_prepared (coord_at w a).status i) (l p k)) (decisions_of c w a) h.delivered;
    }
