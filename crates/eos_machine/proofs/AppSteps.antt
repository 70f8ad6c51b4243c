-- Each thing that happens to an application keeps its invariant.
use Rattle.std.proofs.Common.{◌≡◌, ℕ, ◌+◌, ◌<◌, ◌≤◌, ◌==◌, true, false, List, [], ◌∷◌, ◌++◌, Option, Some, None, refl, sym, subst, arith, inl, inr, ◌⊎◌, if◌then◌else◌, ◌∙◌, ap₂, eq-eqb, slice_index_or}
use Rattle.std.specs.List.{All, Contains}
use Rattle.std.proofs.lemmas.List.Elements.{All-head, All-tail, All-weaker, All-push, Contains-push, Contains-append_left}
use Rattle.std.proofs.lemmas.List.Elements.{All-contains}
use Rattle.std.proofs.lemmas.Bool.{eqb-true}
use Rattle.std.proofs.lemmas.List.Quantifiers.{all_pairs_push}
use Rattle.eos_batch.specs.declared.marker.Kind.{Kind}
use Rattle.eos_machine.specs.World.{Status, Empty, Ongoing, Prepare, Complete}
use Rattle.eos_machine.specs.Application.{Mark, Batch, End, Decision, first_end, IsOrdered, IsClosed, Fate, Matched}
use Rattle.eos_machine.specs.Deliveries.{without}
use Rattle.eos_machine.proofs.Apps.{App, pushed, begun, joined, push_mark, decided, marked, ticked, completed, waited, MayBeOpen, Waits, Delivered, IsOfStatus, Invariant}
use Rattle.eos_machine.proofs.Members.{contains_none, without_keeps, without_from}

-- ---- growing lists of decisions

pub ordered_more : (ds : List Decision) (x : Decision) (p m : ℕ) (k : Kind) → IsOrdered ds p m k → IsOrdered (ds ++ x ∷ []) p m k
ordered_more ds x p m k h = record { decision = h.decision; member = Contains-append_left ds (x ∷ []) h.decision h.member; to = h.to; kind = h.kind; listed = h.listed }

pub closed_more : (ds : List Decision) (x : Decision) (p e m : ℕ) (k : Kind) → IsClosed ds p e m k → IsClosed (ds ++ x ∷ []) p e m k
unfolding ordered_more
closed_more ds x p e m k h = record { ordered = ordered_more ds x p m k h.ordered; from = h.from }

-- ---- marks

pub matched_weaker : (O Q : ℕ → Type 0) (ds : List Decision) (p : ℕ) (ts : List Mark) → ((e : ℕ) → O e → Q e) → Matched O ds p ts → Matched Q ds p ts
matched_weaker O Q ds p [] f h = tt
matched_weaker O Q ds p (End m k ∷ ts) f h = (h.0, matched_weaker O Q ds p ts f h.1)
matched_weaker O Q ds p (Batch e y ∷ ts) f h = (fate (first_end ts) h.0, matched_weaker O Q ds p ts f h.1)
  where
    fate : (r : Option (ℕ × Kind)) → Fate O ds p e r → Fate Q ds p e r
    fate None w = f e w
    fate (Some m) w = w

pub matched_more : (O : ℕ → Type 0) (ds : List Decision) (x : Decision) (p : ℕ) (ts : List Mark) → Matched O ds p ts → Matched O (ds ++ x ∷ []) p ts
matched_more O ds x p [] h = tt
matched_more O ds x p (End m k ∷ ts) h = (ordered_more ds x p m k h.0, matched_more O ds x p ts h.1)
matched_more O ds x p (Batch e y ∷ ts) h = (fate (first_end ts) h.0, matched_more O ds x p ts h.1)
  where
    fate : (r : Option (ℕ × Kind)) → Fate O ds p e r → Fate O (ds ++ x ∷ []) p e r
    fate None w = w
    fate (Some m) w = closed_more ds x p e m.0 m.1 w

pub end_after_batch : (ts : List Mark) (e : ℕ) (y : Option ℕ) → first_end (ts ++ Batch e y ∷ []) ≡ first_end ts
end_after_batch [] e y = refl
end_after_batch (Batch f z ∷ ts) e y = end_after_batch ts e y
end_after_batch (End m k ∷ ts) e y = refl

pub matched_batch : (O : ℕ → Type 0) (ds : List Decision) (p : ℕ) (ts : List Mark) (e : ℕ) (y : Option ℕ) → O e → Matched O ds p ts → Matched O ds p (ts ++ Batch e y ∷ [])
matched_batch O ds p [] e y o h = (o, tt)
matched_batch O ds p (End m k ∷ ts) e y o h = (h.0, matched_batch O ds p ts e y o h.1)
matched_batch O ds p (Batch f z ∷ ts) e y o h = (rw (end_after_batch ts e y) h.0, matched_batch O ds p ts e y o h.1)

-- data is below a marker
abbrev pub IsUnder : ℕ → Mark → Type 0
IsUnder m (Batch e y) = e < m
IsUnder m (End n k) = n ≤ m

-- a marker closes what is open
pub matched_end : (O Q : ℕ → Type 0) (ds : List Decision) (p : ℕ) (ts : List Mark) (m : ℕ) (k : Kind) → IsOrdered ds p m k → ((e : ℕ) → e < m → O e → IsClosed ds p e m k)
    → All (IsUnder m) ts → Matched O ds p ts → Matched Q ds p (ts ++ End m k ∷ [])
matched_end O Q ds p [] m k is closes under h = (is, tt)
matched_end O Q ds p (End n l ∷ ts) m k is closes under h = (h.0, matched_end O Q ds p ts m k is closes (All-tail (IsUnder m) (End n l) ts under) h.1)
matched_end O Q ds p (Batch e y ∷ ts) m k is closes under h = (fate ts h.0, matched_end O Q ds p ts m k is closes (All-tail (IsUnder m) (Batch e y) ts under) h.1)
  where
    fate : (us : List Mark) → Fate O ds p e (first_end us) → Fate Q ds p e (first_end (us ++ End m k ∷ []))
    fate [] w = closes e (All-head (IsUnder m) (Batch e y) ts under) w
    fate (Batch g z ∷ us) w = fate us w
    fate (End n l ∷ us) w = w

-- ---- pushed marks

pub pushed_cases : (P : ℕ → List Mark → Type 0) (f : ℕ → List Mark) (p : ℕ) (t : Mark) → ((q : ℕ) → (q == p) ≡ false → P q (f q)) → P p (f p ++ t ∷ []) → (q : ℕ) → P q (pushed f p t q)
pushed_cases P f p t others this q =
    elim (q == p) as (λ b. (q == p) ≡ b → P q (if b then f q ++ t ∷ [] else f q)) [
      | true ↦ λ e. let same : q ≡ p = omega (arith, eqb-true q p e) in subst (λ (z : ℕ). P z (f z ++ t ∷ [])) (sym same) this
      | false ↦ λ e. others q e
    ] refl

contains_pushed : (f : ℕ → List Mark) (p : ℕ) (t x : Mark) (q : ℕ) → Contains (f q) x → Contains (pushed f p t q) x
contains_pushed f p t x q h =
    elim (q == p) as (λ b. Contains (if b then f q ++ t ∷ [] else f q) x) [
      | true ↦ Contains-append_left (f q) (t ∷ []) x h
      | false ↦ h
    ]

contains_itself : (f : ℕ → List Mark) (p : ℕ) (t : Mark) → Contains (pushed f p t p) t
contains_itself f p t =
    elim (p == p) as (λ b. (p == p) ≡ b → Contains (if b then f p ++ t ∷ [] else f p) t) [
      | true ↦ λ e. Contains-push (f p) t
      | false ↦ λ e. absurd (let w : (p == p) ≡ true = eq-eqb p p refl in cc)
    ] refl

-- ---- settled applications

-- nothing is open, and nothing is waited for
abbrev pub IsSettled : Status → Type 0
IsSettled Empty = Unit {0}
IsSettled Ongoing = ⊥
IsSettled (Prepare k) = ⊥
IsSettled (Complete k) = Unit {0}

pub never_open : (s : Status) (now : ℕ) (partitions awaited : List ℕ) (p e : ℕ) → IsSettled s → MayBeOpen s now partitions awaited p e → ⊥
never_open Empty now partitions awaited p e i h = h
never_open (Complete k) now partitions awaited p e i h = h
never_open Ongoing now partitions awaited p e i h = i
never_open (Prepare k) now partitions awaited p e i h = i

-- no marker is waited for
abbrev pub IsNoPrepare : Status → Type 0
IsNoPrepare Empty = Unit {0}
IsNoPrepare Ongoing = Unit {0}
IsNoPrepare (Prepare k) = ⊥
IsNoPrepare (Complete k) = Unit {0}

never_waits : (s : Status) (now : ℕ) (awaited : List ℕ) (d : Decision) (p : ℕ) → IsNoPrepare s → Waits s now awaited d p → ⊥
never_waits Empty now awaited d p i h = h
never_waits (Complete k) now awaited d p i h = h
never_waits Ongoing now awaited d p i h = h
never_waits (Prepare k) now awaited d p i h = i

pub not_prepared : (s : Status) → IsSettled s → IsNoPrepare s
not_prepared Empty i = tt
not_prepared Ongoing i = tt
not_prepared (Prepare k) i = i
not_prepared (Complete k) i = tt

-- a delivered marker that isn't waited for is there
pub there : (s : App) (d : Decision) (p : ℕ) → IsNoPrepare s.status → Delivered s d p → Contains (s.marks p) (End d.to d.kind)
there s d p i (inl h) = h
there s d p i (inr h) = absurd (never_waits s.status s.epoch s.awaited d p i h)

-- ---- the steps

pub begun_keeps : (s : App) (e : ℕ) → Invariant s → IsSettled s.status → s.epoch ≤ e → Invariant (begun s e)
begun_keeps s e h i le = record {
  raised = h.raised;
  rising = h.rising;
  below = All-weaker (λ d. d.to ≤ s.epoch) (λ d. d.to ≤ e) (λ d l. omega arith) s.decisions h.below;
  kinds = All-weaker (IsOfStatus s.status s.epoch) (IsOfStatus Empty e) (λ d l. tt) s.decisions h.kinds;
  orders = tt;
  awaits = λ p w. w;
  matched = λ p. matched_weaker _ (MayBeOpen Empty e [] [] p) s.decisions p (s.marks p) (λ f o. never_open s.status s.epoch s.partitions s.awaited p f i o) (h.matched p);
  delivered = All-weaker (λ d. (p : ℕ) → Contains d.partitions p → Delivered s d p) (λ d. (p : ℕ) → Contains d.partitions p → Delivered (begun s e) d p) (λ d l p c. inl (there s d p (not_prepared s.status i) (l p c))) s.decisions h.delivered;
}

-- the partitions of an ongoing transaction are among those
abbrev pub Grows : Status → List ℕ → List ℕ → Type 0
Grows Empty old new = Unit {0}
Grows Ongoing old new = (p : ℕ) → Contains old p → Contains new p
Grows (Prepare k) old new = ⊥
Grows (Complete k) old new = Unit {0}

grows_open : (s : Status) (now : ℕ) (old awaited new : List ℕ) (p e : ℕ) → Grows s old new → MayBeOpen s now old awaited p e → MayBeOpen Ongoing now new new p e
grows_open Empty now old awaited new p e g o = absurd o
grows_open Ongoing now old awaited new p e g o = (o.0, g p o.1)
grows_open (Prepare k) now old awaited new p e g o = absurd g
grows_open (Complete k) now old awaited new p e g o = absurd o

grows_no_prepare : (s : Status) (old new : List ℕ) → Grows s old new → IsNoPrepare s
grows_no_prepare Empty old new g = tt
grows_no_prepare Ongoing old new g = tt
grows_no_prepare (Prepare k) old new g = g
grows_no_prepare (Complete k) old new g = tt

pub joined_keeps : (s : App) (ps : List ℕ) → Invariant s → Grows s.status s.partitions ps → Invariant (joined s ps)
joined_keeps s ps h g = record {
  raised = h.raised;
  rising = h.rising;
  below = h.below;
  kinds = All-weaker (IsOfStatus s.status s.epoch) (IsOfStatus Ongoing s.epoch) (λ d l. tt) s.decisions h.kinds;
  orders = tt;
  awaits = λ p w. w;
  matched = λ p. matched_weaker _ (MayBeOpen Ongoing s.epoch ps ps p) s.decisions p (s.marks p) (λ f o. grows_open s.status s.epoch s.partitions s.awaited ps p f g o) (h.matched p);
  delivered = All-weaker (λ d. (p : ℕ) → Contains d.partitions p → Delivered s d p) (λ d. (p : ℕ) → Contains d.partitions p → Delivered (joined s ps) d p) (λ d l p c. inl (there s d p (grows_no_prepare s.status s.partitions ps g) (l p c))) s.decisions h.delivered;
}

delivered_pushed : (s : App) (p : ℕ) (t : Mark) (d : Decision) (q : ℕ) → Delivered s d q → Contains (pushed s.marks p t q) (End d.to d.kind) ⊎ Waits s.status s.epoch s.awaited d q
delivered_pushed s p t d q (inl h) = inl (contains_pushed s.marks p t (End d.to d.kind) q h)
delivered_pushed s p t d q (inr h) = inr h

pub appended_keeps : (s : App) (p e : ℕ) (y : Option ℕ) → Invariant s → MayBeOpen s.status s.epoch s.partitions s.awaited p e → Invariant (push_mark s p (Batch e y))
appended_keeps s p e y h o = record {
  raised = h.raised;
  rising = h.rising;
  below = h.below;
  kinds = h.kinds;
  orders = h.orders;
  awaits = h.awaits;
  matched = pushed_cases (λ q ts. Matched (MayBeOpen s.status s.epoch s.partitions s.awaited q) s.decisions q ts) s.marks p (Batch e y) (λ q n. h.matched q)
      (matched_batch _ s.decisions p (s.marks p) e y o (h.matched p));
  delivered = All-weaker (λ d. (q : ℕ) → Contains d.partitions q → Delivered s d q) (λ d. (q : ℕ) → Contains d.partitions q → Delivered (push_mark s p (Batch e y)) d q) (λ d l q c. delivered_pushed s p (Batch e y) d q (l q c)) s.decisions h.delivered;
}

decides_open : (s : Status) (k : Kind) (now : ℕ) (old awaited new : List ℕ) (p e : ℕ) → Grows s old new → MayBeOpen s now old awaited p e → MayBeOpen (Prepare k) (now + 1) new new p e
decides_open Empty k now old awaited new p e g o = absurd o
decides_open Ongoing k now old awaited new p e g o = (omega (arith, o.0), g p o.1)
decides_open (Prepare l) k now old awaited new p e g o = absurd g
decides_open (Complete l) k now old awaited new p e g o = absurd o

pub decided_keeps : (s : App) (k : Kind) (ps : List ℕ) → Invariant s → Grows s.status s.partitions ps → Invariant (decided s k ps)
decided_keeps s k ps h g =
    let x : Decision = record { from = s.epoch; to = s.epoch + 1; kind = k; partitions = ps } in
    record {
      raised = All-push (λ d. d.to ≡ d.from + 1) s.decisions x h.raised refl;
      rising = all_pairs_push (λ c d. c.to ≤ d.from) s.decisions x h.rising (λ i d l. h.below i d l);
      below = All-push (λ d. d.to ≤ s.epoch + 1) s.decisions x (All-weaker (λ d. d.to ≤ s.epoch) (λ d. d.to ≤ s.epoch + 1) (λ d l. omega arith) s.decisions h.below) (omega arith);
      kinds = All-push (λ d. d.to ≡ s.epoch + 1 → d.kind ≡ k) s.decisions x (All-weaker (λ d. d.to ≤ s.epoch) (λ d. d.to ≡ s.epoch + 1 → d.kind ≡ k) (λ d l e. absurd (omega arith)) s.decisions h.below) (λ e. refl);
      orders = λ p c. record { decision = x; member = Contains-push s.decisions x; to = refl; kind = refl; listed = c };
      awaits = λ p w. w;
      matched = λ p. matched_more _ s.decisions x p (s.marks p) (matched_weaker _ (MayBeOpen (Prepare k) (s.epoch + 1) ps ps p) s.decisions p (s.marks p) (λ f o. decides_open s.status k s.epoch s.partitions s.awaited ps p f g o) (h.matched p));
      delivered = All-push (λ d. (p : ℕ) → Contains d.partitions p → Delivered (decided s k ps) d p) s.decisions x
          (All-weaker (λ d. (p : ℕ) → Contains d.partitions p → Delivered s d p) (λ d. (p : ℕ) → Contains d.partitions p → Delivered (decided s k ps) d p) (λ d l p c. inl (there s d p (grows_no_prepare s.status s.partitions ps g) (l p c))) s.decisions h.delivered)
          (λ p c. inr (refl, c));
    }

-- ---- markers

-- what is open is closed by its decision
closes : (s : App) (p m : ℕ) (k : Kind) → Invariant s → IsOrdered s.decisions p m k → (e : ℕ) → e < m → MayBeOpen s.status s.epoch s.partitions s.awaited p e → IsClosed s.decisions p e m k
closes s p m k h is e lt o =
    let up = All-contains (λ d. d.to ≡ d.from + 1) s.decisions is.decision h.raised is.member in
    let low = All-contains (λ d. d.to ≤ s.epoch) s.decisions is.decision h.below is.member in
    let near : s.epoch ≤ e + 1 = near_epoch s.status s.epoch s.partitions s.awaited p e o in
    record { ordered = is; from = omega (arith, is.to) }
  where
    near_epoch : (t : Status) (now : ℕ) (partitions awaited : List ℕ) (p e : ℕ) → MayBeOpen t now partitions awaited p e → now ≤ e + 1
    near_epoch Empty now partitions awaited p e o = absurd o
    near_epoch Ongoing now partitions awaited p e o = omega (arith, o.0)
    near_epoch (Prepare l) now partitions awaited p e o = omega (arith, o.0)
    near_epoch (Complete l) now partitions awaited p e o = absurd o

pub marked_keeps : (s : App) (p m : ℕ) (k : Kind) → Invariant s → IsOrdered s.decisions p m k → All (IsUnder m) (s.marks p) → Invariant (marked s p m k)
marked_keeps s p m k h is under = record {
  raised = h.raised;
  rising = h.rising;
  below = h.below;
  kinds = h.kinds;
  orders = h.orders;
  awaits = h.awaits;
  matched = pushed_cases (λ q ts. Matched (MayBeOpen s.status s.epoch s.partitions s.awaited q) s.decisions q ts) s.marks p (End m k) (λ q n. h.matched q)
      (matched_end _ _ s.decisions p (s.marks p) m k is (closes s p m k h is) under (h.matched p));
  delivered = All-weaker (λ d. (q : ℕ) → Contains d.partitions q → Delivered s d q) (λ d. (q : ℕ) → Contains d.partitions q → Delivered (marked s p m k) d q) (λ d l q c. delivered_pushed s p (End m k) d q (l q c)) s.decisions h.delivered;
}

open_without : (t : Status) (now : ℕ) (partitions awaited : List ℕ) (p q e : ℕ) → (q == p) ≡ false → MayBeOpen t now partitions awaited q e → MayBeOpen t now partitions (without p awaited) q e
open_without Empty now partitions awaited p q e n o = o
open_without Ongoing now partitions awaited p q e n o = o
open_without (Prepare l) now partitions awaited p q e n o = (o.0, without_keeps p q awaited o.1 n)
open_without (Complete l) now partitions awaited p q e n o = o

-- the marker that the coordinator waits for
abbrev pub IsCurrent : Status → ℕ → ℕ → Kind → Type 0
IsCurrent Empty now m k = ⊥
IsCurrent Ongoing now m k = ⊥
IsCurrent (Prepare l) now m k = (m ≡ now) × (k ≡ l)
IsCurrent (Complete l) now m k = ⊥

ticked_delivered : (t : Status) (now : ℕ) (awaited : List ℕ) (f : ℕ → List Mark) (p m : ℕ) (k : Kind) (d : Decision) (q : ℕ) → IsCurrent t now m k → IsOfStatus t now d
    → Contains (f q) (End d.to d.kind) ⊎ Waits t now awaited d q → Contains (pushed f p (End m k) q) (End d.to d.kind) ⊎ Waits t now (without p awaited) d q
ticked_delivered t now awaited f p m k d q c i (inl h) = inl (contains_pushed f p (End m k) (End d.to d.kind) q h)
ticked_delivered Empty now awaited f p m k d q c i (inr w) = absurd c
ticked_delivered Ongoing now awaited f p m k d q c i (inr w) = absurd c
ticked_delivered (Complete l) now awaited f p m k d q c i (inr w) = absurd c
ticked_delivered (Prepare l) now awaited f p m k d q c i (inr w) =
    elim (q == p) as (λ b. (q == p) ≡ b → Contains (pushed f p (End m k) q) (End d.to d.kind) ⊎ Waits (Prepare l) now (without p awaited) d q) [
      | true ↦ λ e.
          let same : q ≡ p = omega (arith, eqb-true q p e) in
          let is : End m k ≡ End d.to d.kind = ap₂ End (c.0 ∙ sym w.0) (c.1 ∙ sym (i w.0)) in
          inl (subst (λ (z : ℕ). Contains (pushed f p (End m k) z) (End d.to d.kind)) (sym same)
          (subst (λ (x : Mark). Contains (pushed f p (End m k) p) x) is (contains_itself f p (End m k))))
      | false ↦ λ e. inr (w.0, without_keeps p q awaited w.1 e)
    ] refl

pub ticked_keeps : (s : App) (p m : ℕ) (k : Kind) → Invariant s → IsOrdered s.decisions p m k → All (IsUnder m) (s.marks p) → IsCurrent s.status s.epoch m k → Invariant (ticked s p m k)
ticked_keeps s p m k h is under c = record {
  raised = h.raised;
  rising = h.rising;
  below = h.below;
  kinds = h.kinds;
  orders = h.orders;
  awaits = λ q w. h.awaits q (without_from p q s.awaited w);
  matched = pushed_cases (λ q ts. Matched (MayBeOpen s.status s.epoch s.partitions (without p s.awaited) q) s.decisions q ts) s.marks p (End m k)
      (λ q n. matched_weaker _ (MayBeOpen s.status s.epoch s.partitions (without p s.awaited) q) s.decisions q (s.marks q) (λ e o. open_without s.status s.epoch s.partitions s.awaited p q e n o) (h.matched q))
      (matched_end _ _ s.decisions p (s.marks p) m k is (closes s p m k h is) under (h.matched p));
  delivered = λ i d l q w. ticked_delivered s.status s.epoch s.awaited s.marks p m k (slice_index_or s.decisions i d) q c (h.kinds i d l) (h.delivered i d l q w);
}

-- ---- all markers have come

none_open : (t : Status) (now : ℕ) (partitions awaited : List ℕ) (p e : ℕ) (k : Kind) → awaited ≡ [] → t ≡ Prepare k → MayBeOpen t now partitions awaited p e → ⊥
none_open t now partitions awaited p e k n is o =
    let w : MayBeOpen (Prepare k) now partitions [] p e = subst (λ (u : Status). MayBeOpen u now partitions [] p e) is (subst (λ (l : List ℕ). MayBeOpen t now partitions l p e) n o) in
    contains_none p w.1

none_waits : (t : Status) (now : ℕ) (awaited : List ℕ) (d : Decision) (p : ℕ) → awaited ≡ [] → Waits t now awaited d p → ⊥
none_waits Empty now awaited d p n w = w
none_waits Ongoing now awaited d p n w = w
none_waits (Complete k) now awaited d p n w = w
none_waits (Prepare k) now awaited d p n w = contains_none p (subst (λ (l : List ℕ). Contains l p) n w.1)

there_now : (s : App) (d : Decision) (p : ℕ) → s.awaited ≡ [] → Delivered s d p → Contains (s.marks p) (End d.to d.kind)
there_now s d p n (inl h) = h
there_now s d p n (inr h) = absurd (none_waits s.status s.epoch s.awaited d p n h)

pub completed_keeps : (s : App) (k : Kind) → Invariant s → s.status ≡ Prepare k → s.awaited ≡ [] → Invariant (completed s k)
completed_keeps s k h is n = record {
  raised = h.raised;
  rising = h.rising;
  below = h.below;
  kinds = All-weaker (IsOfStatus s.status s.epoch) (IsOfStatus (Complete k) s.epoch) (λ d l. tt) s.decisions h.kinds;
  orders = tt;
  awaits = λ p w. w;
  matched = λ p. matched_weaker _ (MayBeOpen (Complete k) s.epoch [] [] p) s.decisions p (s.marks p) (λ e o. none_open s.status s.epoch s.partitions s.awaited p e k n is o) (h.matched p);
  delivered = All-weaker (λ d. (p : ℕ) → Contains d.partitions p → Delivered s d p) (λ d. (p : ℕ) → Contains d.partitions p → Delivered (completed s k) d p) (λ d l p c. inl (there_now s d p n (l p c))) s.decisions h.delivered;
}

-- ---- the states are read again

wider_open : (t : Status) (now : ℕ) (partitions awaited : List ℕ) (p e : ℕ) → ((q : ℕ) → Contains awaited q → Contains partitions q) → MayBeOpen t now partitions awaited p e → MayBeOpen t now partitions partitions p e
wider_open Empty now partitions awaited p e f o = o
wider_open Ongoing now partitions awaited p e f o = o
wider_open (Prepare k) now partitions awaited p e f o = (o.0, f p o.1)
wider_open (Complete k) now partitions awaited p e f o = o

wider_waits : (t : Status) (now : ℕ) (partitions awaited : List ℕ) (d : Decision) (p : ℕ) → ((q : ℕ) → Contains awaited q → Contains partitions q) → Waits t now awaited d p → Waits t now partitions d p
wider_waits Empty now partitions awaited d p f w = w
wider_waits Ongoing now partitions awaited d p f w = w
wider_waits (Prepare k) now partitions awaited d p f w = (w.0, f p w.1)
wider_waits (Complete k) now partitions awaited d p f w = w

wider_delivered : (s : App) (d : Decision) (p : ℕ) → ((q : ℕ) → Contains s.awaited q → Contains s.partitions q) → Delivered s d p → Delivered (waited s) d p
wider_delivered s d p f (inl h) = inl h
wider_delivered s d p f (inr w) = inr (wider_waits s.status s.epoch s.partitions s.awaited d p f w)

pub waited_keeps : (s : App) → Invariant s → Invariant (waited s)
waited_keeps s h = record {
  raised = h.raised;
  rising = h.rising;
  below = h.below;
  kinds = h.kinds;
  orders = h.orders;
  awaits = λ p w. w;
  matched = λ p. matched_weaker _ (MayBeOpen s.status s.epoch s.partitions s.partitions p) s.decisions p (s.marks p) (λ e o. wider_open s.status s.epoch s.partitions s.awaited p e h.awaits o) (h.matched p);
  delivered = All-weaker (λ d. (p : ℕ) → Contains d.partitions p → Delivered s d p) (λ d. (p : ℕ) → Contains d.partitions p → Delivered (waited s) d p) (λ d l p c. wider_delivered s d p h.awaits (l p c)) s.decisions h.delivered;
}

-- an application of which nothing has happened
pub nothing_keeps : (f : ℕ → List Mark) (e : ℕ) → ((p : ℕ) → f p ≡ []) → Invariant (record { status = Empty; epoch = e; partitions = []; awaited = []; decisions = []; marks = f })
nothing_keeps f e none = record {
  raised = λ i d l. absurd (omega arith);
  rising = λ i j d l k. absurd (omega arith);
  below = λ i d l. absurd (omega arith);
  kinds = λ i d l. tt;
  orders = tt;
  awaits = λ p w. w;
  matched = λ p. subst (λ (ts : List Mark). Matched (MayBeOpen Empty e [] [] p) [] p ts) (sym (none p)) tt;
  delivered = λ i d l p c. absurd (omega arith);
}
