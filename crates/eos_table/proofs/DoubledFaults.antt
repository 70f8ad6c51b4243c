-- What the records show against those before them is what stands.
use Rattle.std.proofs.Common.{◌≡◌, ◌≢◌, ◌<ℤ◌, ◌≤ℤ◌, ℕ, ℤ, pos, negsuc, List, [], ◌∷◌, ◌++◌, map, fold, Option, Some, None, refl, sym, subst, ap, ◌∙◌, inl, inr, true, false, Bool, not, ◌||◌, if◌then◌else◌, cond, append_assoc, arith}
use Rattle.std.specs.Prelude.{int_lt}
use Rattle.std.proofs.lemmas.Int.{ints}
use Rattle.std.proofs.lemmas.List.{map-append, append-nil}
use Rattle.std.specs.Ordering.{nat_cmp, is_eq}
use Rattle.std.proofs.lemmas.Cmp.{nat_list_cmp_total, nat_cmp_total, tied_itself}
use Rattle.eos_base.specs.Members.{Has}
use Rattle.eos_base.proofs.Membership.{append_cases, append_left, append_right, only, has_if, if_has}
use Rattle.eos_base.proofs.Decides.{differs}
use Rattle.eos_base.proofs.Exact.{nat_exact}
use Rattle.eos_txnlog.specs.declared.value.TxnValue.{TxnValue}
use Rattle.eos_fold.specs.Parts.{PartLog}
use Rattle.eos_verdict.specs.declared.log_fault.LogFault.{LogFault}
use Rattle.eos_verdict.specs.declared.log_fault.LogFaultKind.{LogFaultKind}
use Rattle.eos_verdict.specs.declared.log_fault.LogFaultKind.TheVariants.{SplitId, SharedProducer}
use Rattle.eos_table.specs.TransactionLog.{Id, same_id, Unskipped, all_steps, ShareProducer, AreInOrder}
use Rattle.eos_table.specs.LogFaults.{AtStep, IsBefore, Stands}
use Rattle.eos_table.specs.steps.LogCandidates.{fault_at, natural, producer_of, mark_of, is_of_producer}
use Rattle.eos_table.proofs.LogTables.{same, is_equal}
use Rattle.eos_table.proofs.LogOrderly.{Ordered, all_ordered, ordered_across, stands_earlier}
use Rattle.eos_table.specs.declared.mark.Mark.{Mark}
use Rattle.eos_table.specs.declared.doubled.Ids.{Ids}
use Rattle.eos_table.specs.steps.Doubled.{lesser_home, next_home, home_in, split_at, with_id, next_ids, ids_in, shared_at, doubled_at, doubled_after}

-- ---- places in the list

-- what is shown at one of them, after those before it
record Shown (front ts : List Unskipped) (f : LogFault) : Type 0 where
  before : List Unskipped
  step : Unskipped
  later : List Unskipped
  parts : front ++ ts ≡ before ++ step ∷ later
  here : Has (doubled_at (map mark_of before) (mark_of step)) f

-- with one more before
one_more : (front ts : List Unskipped) (t : Unskipped) (X : List Mark → List Mark → List LogFault) → X (map mark_of front ++ mark_of t ∷ []) (map mark_of ts) ≡ X (map mark_of (front ++ t ∷ [])) (map mark_of ts)
one_more front ts t X = ap (λ z. X z (map mark_of ts)) (sym (map-append mark_of front (t ∷ [])))

shown : (front ts : List Unskipped) (f : LogFault) → Has (doubled_after (map mark_of front) (map mark_of ts)) f → Shown front ts f
shown front [] f h = absurd h
shown front (t ∷ ts) f h = elim (append_cases (doubled_at (map mark_of front) (mark_of t)) (doubled_after (map mark_of front ++ mark_of t ∷ []) (map mark_of ts)) f h) [
  | inl a ↦ record { before = front; step = t; later = ts; parts = refl; here = a }
  | inr b ↦
      let r = shown (front ++ t ∷ []) ts f (subst (λ z. Has z f) (one_more front ts t doubled_after) b) in
      record { before = r.before; step = r.step; later = r.later; parts = sym (append_assoc front (t ∷ []) ts) ∙ r.parts; here = r.here }
]

-- a member, with those before it, and what is shown there
record Member (front ts : List Unskipped) (t : Unskipped) : Type 0 where
  before : List Unskipped
  later : List Unskipped
  parts : front ++ ts ≡ before ++ t ∷ later
  shows : (f : LogFault) → Has (doubled_at (map mark_of before) (mark_of t)) f → Has (doubled_after (map mark_of front) (map mark_of ts)) f

member : (front ts : List Unskipped) (t : Unskipped) → Has ts t → Member front ts t
member front [] t h = absurd h
member front (s ∷ ts) t (inl e) = subst (Member front (s ∷ ts)) e (record {
  before = front;
  later = ts;
  parts = refl;
  shows = λ f k. append_left (doubled_at (map mark_of front) (mark_of s)) (doubled_after (map mark_of front ++ mark_of s ∷ []) (map mark_of ts)) f k;
})
member front (s ∷ ts) t (inr h) =
    let r = member (front ++ s ∷ []) ts t h in
    record {
      before = r.before;
      later = r.later;
      parts = sym (append_assoc front (s ∷ []) ts) ∙ r.parts;
      shows = λ f k. append_right (doubled_at (map mark_of front) (mark_of s)) (doubled_after (map mark_of front ++ mark_of s ∷ []) (map mark_of ts)) f
          (subst (λ z. Has z f) (sym (one_more front ts s doubled_after)) (r.shows f k));
    }

-- ---- tests

less : (a b : ℤ) → int_lt a b ≡ true → a <ℤ b
less a b e = grind (arith, ints)

not_less : (a b : ℤ) → int_lt a b ≡ false → b ≤ℤ a
not_less a b e = grind (arith, ints)

is_less : (a b : ℤ) → a <ℤ b → int_lt a b ≡ true
is_less a b l = grind (arith, ints)

same_itself : (a b : Id) → a ≡ b → same_id a b ≡ true
same_itself a b e = subst (λ z. same_id a z ≡ true) e (ap is_eq (tied_itself nat_list_cmp_total a))

natural_is : (z : ℤ) (p : ℕ) → natural z ≡ Some p → z ≡ pos p
natural_is (pos q) p e = cc
natural_is (negsuc q) p e = absurd cc

some_natural : (z : ℤ) → pos 0 ≤ℤ z → (p : ℕ) × (natural z ≡ Some p)
some_natural (pos q) l = (q, refl)
some_natural (negsuc q) l = absurd (omega (arith, ints, l))

-- two records of one producer id of 0 or more
shares : (u v : Option TxnValue) (p : ℕ) → producer_of u ≡ Some p → producer_of v ≡ Some p → ShareProducer u v
shares None v p e f = absurd cc
shares (Some a) None p e f = absurd cc
shares (Some a) (Some b) p e f =
    let x = natural_is a.producer p e in
    let y = natural_is b.producer p f in
    (x ∙ sym y, omega (arith, ints, x))

shared : (u v : Option TxnValue) → ShareProducer u v → (p : ℕ) × (producer_of u ≡ Some p) × (producer_of v ≡ Some p)
shared None v h = absurd h
shared (Some a) None h = absurd h
shared (Some a) (Some b) h = let r = some_natural a.producer h.1 in (r.0, r.1, subst (λ z. natural z ≡ Some r.0) h.0 r.1)

is_producer : (p : ℕ) (o : Option ℕ) → is_of_producer p o ≡ true → o ≡ Some p
is_producer p None e = absurd cc
is_producer p (Some q) e = let same : q ≡ p = nat_exact q p (is_equal (nat_cmp q p) e) in ap Some same

of_producer : (p : ℕ) (o : Option ℕ) → o ≡ Some p → is_of_producer p o ≡ true
of_producer p o e = subst (λ z. is_of_producer p z ≡ true) (sym e) (ap is_eq (tied_itself nat_cmp_total p))

-- ---- the least partition of an id

abbrev HomeIs : List Unskipped → Id → Option ℤ → Type 0
HomeIs before id None = (s : Unskipped) → Has before s → s.id ≡ id → ⊥
HomeIs before id (Some home) = ((s : Unskipped) × Has before s × (s.id ≡ id) × (s.partition ≡ home)) × ((s : Unskipped) → Has before s → s.id ≡ id → home ≤ℤ s.partition)

one_home : (front : List Unskipped) (t : Unskipped) (id : Id) (o : Option ℤ) → HomeIs front id o → HomeIs (front ++ t ∷ []) id (next_home id o (mark_of t))
one_home front t id o h = go (same_id t.id id) refl o h
  where
    behind : Has (front ++ t ∷ []) t
    behind = append_right front (t ∷ []) t (inl refl)

    no : same_id t.id id ≡ false → (s : Unskipped) → Has (t ∷ []) s → s.id ≡ id → ⊥
    no e s k q = differs (same_id t.id id) e (same_itself t.id id (ap (λ (z : Unskipped). z.id) (only t s k) ∙ q))

    at_last : (s : Unskipped) → Has (t ∷ []) s → t.partition ≤ℤ s.partition
    at_last s k = let e : t.partition ≡ s.partition = ap (λ (z : Unskipped). z.partition) (only t s k) in omega (arith, ints, e)

    lesser : (m : ℤ) → HomeIs front id (Some m) → same_id t.id id ≡ true → (c : Bool) → int_lt m t.partition ≡ c → HomeIs (front ++ t ∷ []) id (Some (if c then m else t.partition))
    lesser m h e true l = (
      (h.0.0, append_left front (t ∷ []) h.0.0 h.0.1, h.0.2, h.0.3),
      λ s k q. elim (append_cases front (t ∷ []) s k) [
        | inl a ↦ h.1 s a q
        | inr b ↦ let x = at_last s b in let y = less m t.partition l in omega (arith, ints, x, y)
      ],
    )
    lesser m h e false l = (
      (t, behind, same t.id id e, refl),
      λ s k q. elim (append_cases front (t ∷ []) s k) [
        | inl a ↦ let x = h.1 s a q in let y = not_less m t.partition l in omega (arith, ints, x, y)
        | inr b ↦ at_last s b
      ],
    )

    go : (b : Bool) → same_id t.id id ≡ b → (o : Option ℤ) → HomeIs front id o → HomeIs (front ++ t ∷ []) id (cond b (Some (lesser_home o t.partition)) o)
    go false e None h = λ s k q. elim (append_cases front (t ∷ []) s k) [ inl a ↦ h s a q | inr b ↦ no e s b q ]
    go false e (Some m) h = (
      (h.0.0, append_left front (t ∷ []) h.0.0 h.0.1, h.0.2, h.0.3),
      λ s k q. elim (append_cases front (t ∷ []) s k) [ inl a ↦ h.1 s a q | inr b ↦ absurd (no e s b q) ],
    )
    go true e None h = (
      (t, behind, same t.id id e, refl),
      λ s k q. elim (append_cases front (t ∷ []) s k) [ inl a ↦ absurd (h s a q) | inr b ↦ at_last s b ],
    )
    go true e (Some m) h = lesser m h e (int_lt m t.partition) refl

home_after : (front ts : List Unskipped) (id : Id) (o : Option ℤ) → HomeIs front id o → HomeIs (front ++ ts) id (fold (next_home id) o (map mark_of ts))
home_after front [] id o h = subst (λ z. HomeIs z id o) (sym (append-nil front)) h
home_after front (t ∷ ts) id o h =
    subst (λ z. HomeIs z id (fold (next_home id) (next_home id o (mark_of t)) (map mark_of ts))) (append_assoc front (t ∷ []) ts)
    (home_after (front ++ t ∷ []) ts id (next_home id o (mark_of t)) (one_home front t id o h))

home_is : (before : List Unskipped) (id : Id) → HomeIs before id (home_in (map mark_of before) id)
home_is before id = home_after [] before id None (λ s h q. h)

-- ---- the ids of a producer id

-- there is another id, or none
abbrev Others : List Unskipped → ℕ → Id → Bool → Type 0
Others before p first true = (s : Unskipped) × Has before s × (producer_of s.value ≡ Some p) × (s.id ≢ first)
Others before p first false = (s : Unskipped) → Has before s → producer_of s.value ≡ Some p → s.id ≡ first

abbrev IdsAre : List Unskipped → ℕ → Option Ids → Type 0
IdsAre before p None = (s : Unskipped) → Has before s → producer_of s.value ≡ Some p → ⊥
IdsAre before p (Some ids) = ((s : Unskipped) × Has before s × (producer_of s.value ≡ Some p) × (s.id ≡ ids.first)) × Others before p ids.first ids.is_shared

others_more : (front : List Unskipped) (t : Unskipped) (p : ℕ) (first : Id) (b : Bool) → ((s : Unskipped) → Has (t ∷ []) s → producer_of s.value ≡ Some p → s.id ≡ first)
    → Others front p first b → Others (front ++ t ∷ []) p first b
others_more front t p first true here h = (h.0, append_left front (t ∷ []) h.0 h.1, h.2, h.3)
others_more front t p first false here h = λ s k q. elim (append_cases front (t ∷ []) s k) [ inl a ↦ h s a q | inr b ↦ here s b q ]

one_ids : (front : List Unskipped) (t : Unskipped) (p : ℕ) (o : Option Ids) → IdsAre front p o → IdsAre (front ++ t ∷ []) p (next_ids p o (mark_of t))
one_ids front t p o h = go (is_of_producer p (producer_of t.value)) refl o h
  where
    behind : Has (front ++ t ∷ []) t
    behind = append_right front (t ∷ []) t (inl refl)

    no : is_of_producer p (producer_of t.value) ≡ false → (s : Unskipped) → Has (t ∷ []) s → producer_of s.value ≡ Some p → ⊥
    no e s k q = differs _ e (of_producer p (producer_of t.value) (ap (λ (z : Unskipped). producer_of z.value) (only t s k) ∙ q))

    own : (s : Unskipped) → Has (t ∷ []) s → producer_of s.value ≡ Some p → s.id ≡ t.id
    own s k q = sym (ap (λ (z : Unskipped). z.id) (only t s k))

    next_others : (first : Id) (b c : Bool) → same_id first t.id ≡ c → is_of_producer p (producer_of t.value) ≡ true → Others front p first b → Others (front ++ t ∷ []) p first (b || not c)
    next_others first true c e of h = (h.0, append_left front (t ∷ []) h.0 h.1, h.2, h.3)
    next_others first false true e of h = others_more front t p first false (λ s k q. own s k q ∙ sym (same first t.id e)) h
    next_others first false false e of h = (t, behind, is_producer p (producer_of t.value) of, λ q. differs (same_id first t.id) e (same_itself first t.id (sym q)))

    go : (b : Bool) → is_of_producer p (producer_of t.value) ≡ b → (o : Option Ids) → IdsAre front p o → IdsAre (front ++ t ∷ []) p (cond b (Some (with_id o t.id)) o)
    go false e None h = λ s k q. elim (append_cases front (t ∷ []) s k) [ inl a ↦ h s a q | inr b ↦ no e s b q ]
    go false e (Some ids) h = (
      (h.0.0, append_left front (t ∷ []) h.0.0 h.0.1, h.0.2, h.0.3),
      others_more front t p ids.first ids.is_shared (λ s k q. absurd (no e s k q)) h.1,
    )
    go true e None h = (
      (t, behind, is_producer p (producer_of t.value) e, refl),
      λ s k q. elim (append_cases front (t ∷ []) s k) [ inl a ↦ absurd (h s a q) | inr b ↦ own s b q ],
    )
    go true e (Some ids) h = (
      (h.0.0, append_left front (t ∷ []) h.0.0 h.0.1, h.0.2, h.0.3),
      next_others ids.first ids.is_shared (same_id ids.first t.id) refl e h.1,
    )

ids_after : (front ts : List Unskipped) (p : ℕ) (o : Option Ids) → IdsAre front p o → IdsAre (front ++ ts) p (fold (next_ids p) o (map mark_of ts))
ids_after front [] p o h = subst (λ z. IdsAre z p o) (sym (append-nil front)) h
ids_after front (t ∷ ts) p o h =
    subst (λ z. IdsAre z p (fold (next_ids p) (next_ids p o (mark_of t)) (map mark_of ts))) (append_assoc front (t ∷ []) ts)
    (ids_after (front ++ t ∷ []) ts p (next_ids p o (mark_of t)) (one_ids front t p o h))

ids_are : (before : List Unskipped) (p : ℕ) → IdsAre before p (ids_in (map mark_of before) p)
ids_are before p = ids_after [] before p None (λ s h q. h)

-- whether a record of this id has another id of its producer id before it
abbrev Rival : List Unskipped → ℕ → Id → Type 0
Rival before p id = (s : Unskipped) × Has before s × (producer_of s.value ≡ Some p) × (s.id ≢ id)

rival_from : (before : List Unskipped) (p : ℕ) (id : Id) (o : Option Ids) → IdsAre before p o → (with_id o id).is_shared ≡ true → Rival before p id
rival_from before p id None h e = absurd cc
rival_from before p id (Some ids) h e = go ids.is_shared (same_id ids.first id) refl h.1 e
  where
    go : (b c : Bool) → same_id ids.first id ≡ c → Others before p ids.first b → (b || not c) ≡ true → Rival before p id
    go true true q k f = (k.0, k.1, k.2, λ w. k.3 (w ∙ sym (same ids.first id q)))
    go true false q k f = (h.0.0, h.0.1, h.0.2, λ w. differs (same_id ids.first id) q (same_itself ids.first id (sym h.0.3 ∙ w)))
    go false true q k f = absurd cc
    go false false q k f = (h.0.0, h.0.1, h.0.2, λ w. differs (same_id ids.first id) q (same_itself ids.first id (sym h.0.3 ∙ w)))

from_rival : (before : List Unskipped) (p : ℕ) (id : Id) (o : Option Ids) → IdsAre before p o → (s : Unskipped) → Has before s → producer_of s.value ≡ Some p → s.id ≢ id → (with_id o id).is_shared ≡ true
from_rival before p id None h s k e other = absurd (h s k e)
from_rival before p id (Some ids) h s k e other = go ids.is_shared (same_id ids.first id) refl h.1
  where
    go : (b c : Bool) → same_id ids.first id ≡ c → Others before p ids.first b → (b || not c) ≡ true
    go true c q w = refl
    go false true q w = absurd (other (w s k e ∙ same ids.first id q))
    go false false q w = refl

-- ---- in a log in order

module _ (log : List PartLog) (are : AreInOrder log) where
  up : Ordered IsBefore (all_steps log)
  up = all_ordered log are

  abbrev pub shown_all : List LogFault
  shown_all = doubled_after [] (map mark_of (all_steps log))

  abbrev at : (t : Unskipped) (k : LogFaultKind) → Has (all_steps log) t → AtStep log (fault_at t.partition t.offset k) t.id
  at t k h = record { step = t; has = h; partition = refl; offset = refl; id = refl }

  -- what is shown stands

  there : (before later : List Unskipped) (t s : Unskipped) → all_steps log ≡ before ++ t ∷ later → Has before s → Has (all_steps log) s
  there before later t s parts h = subst (λ z. Has z s) (sym parts) (append_left before (t ∷ later) s h)

  itself : (before later : List Unskipped) (t : Unskipped) → all_steps log ≡ before ++ t ∷ later → Has (all_steps log) t
  itself before later t parts = subst (λ z. Has z t) (sym parts) (append_right before (t ∷ later) t (inl refl))

  split_sound : (before later : List Unskipped) (t : Unskipped) → all_steps log ≡ before ++ t ∷ later → (o : Option ℤ) → HomeIs before t.id o → (f : LogFault) → Has (split_at (mark_of t) o) f → Stands log f
  split_sound before later t parts None known f h = absurd h
  split_sound before later t parts (Some home) known f h =
      let r = if_has (int_lt home t.partition) (fault_at t.partition t.offset (SplitId t.id) ∷ []) f h in
      let s = known.0 in
      let lt : s.0.partition <ℤ t.partition = subst (λ z. z <ℤ t.partition) (sym s.3) (less home t.partition r.0) in
      subst (Stands log) (only _ f r.1) (at t (SplitId t.id) (itself before later t parts), s.0, there before later t s.0 parts s.1, s.2, lt)

  shared_sound : (before later : List Unskipped) (t : Unskipped) → all_steps log ≡ before ++ t ∷ later → (p : Option ℕ) → producer_of t.value ≡ p → (f : LogFault) → Has (shared_at (map mark_of before) (mark_of t) p) f → Stands log f
  shared_sound before later t parts None q f h = absurd h
  shared_sound before later t parts (Some p) q f h =
      let ids = ids_in (map mark_of before) p in
      let r = if_has (with_id ids t.id).is_shared (fault_at t.partition t.offset (SharedProducer t.id) ∷ []) f h in
      stands (rival_from before p t.id ids (ids_are before p) r.0) (only _ f r.1)
    where
      stands : Rival before p t.id → fault_at t.partition t.offset (SharedProducer t.id) ≡ f → Stands log f
      stands s e = subst (Stands log) e (
        at t (SharedProducer t.id) (itself before later t parts),
        s.0,
        there before later t s.0 parts s.1,
        s.3,
        shares s.0.value t.value p s.2 q,
        ordered_across IsBefore before (t ∷ later) (subst (Ordered IsBefore) parts up) s.0 t s.1 (inl refl),
      )

  pub doubled_sound : (f : LogFault) → Has shown_all f → Stands log f
  doubled_sound f h =
      let r = shown [] (all_steps log) f h in
      elim (append_cases (split_at (mark_of r.step) (home_in (map mark_of r.before) r.step.id)) (shared_at (map mark_of r.before) (mark_of r.step) (producer_of r.step.value)) f r.here) [
        | inl a ↦ split_sound r.before r.later r.step r.parts (home_in (map mark_of r.before) r.step.id) (home_is r.before r.step.id) f a
        | inr b ↦ shared_sound r.before r.later r.step r.parts (producer_of r.step.value) refl f b
      ]

  -- what stands is shown

  front : (t s : Unskipped) (m : Member [] (all_steps log) t) → Has (all_steps log) s → IsBefore s t → Has m.before s
  front t s m h b = stands_earlier m.before m.later t s (subst (Ordered IsBefore) m.parts up) (subst (λ z. Has z s) m.parts h) b

  has_split : (before : List Unskipped) (t s : Unskipped) (o : Option ℤ) → HomeIs before t.id o → Has before s → s.id ≡ t.id → s.partition <ℤ t.partition → Has (split_at (mark_of t) o) (fault_at t.partition t.offset (SplitId t.id))
  has_split before t s None known h e lt = absurd (known s h e)
  has_split before t s (Some home) known h e lt =
      let below = known.1 s h e in
      let low : home <ℤ t.partition = omega (arith, ints, below, lt) in
      let fault = fault_at t.partition t.offset (SplitId t.id) in
      has_if (int_lt home t.partition) (fault ∷ []) fault (is_less home t.partition low) (inl refl)

  pub split_whole : (t s : Unskipped) → Has (all_steps log) t → Has (all_steps log) s → s.id ≡ t.id → s.partition <ℤ t.partition → Has shown_all (fault_at t.partition t.offset (SplitId t.id))
  split_whole t s h k e lt =
      let m = member [] (all_steps log) t h in
      let fault = fault_at t.partition t.offset (SplitId t.id) in
      m.shows fault (append_left (split_at (mark_of t) (home_in (map mark_of m.before) t.id)) (shared_at (map mark_of m.before) (mark_of t) (producer_of t.value)) fault
      (has_split m.before t s (home_in (map mark_of m.before) t.id) (home_is m.before t.id) (front t s m k (inl lt)) e lt))

  pub shared_whole : (t s : Unskipped) → Has (all_steps log) t → Has (all_steps log) s → s.id ≢ t.id → ShareProducer s.value t.value → IsBefore s t → Has shown_all (fault_at t.partition t.offset (SharedProducer t.id))
  shared_whole t s h k other share first =
      let m = member [] (all_steps log) t h in
      let ps = shared s.value t.value share in
      let p = ps.0 in
      let fault = fault_at t.partition t.offset (SharedProducer t.id) in
      let ids = ids_in (map mark_of m.before) p in
      let here = has_if (with_id ids t.id).is_shared (fault ∷ []) fault (from_rival m.before p t.id ids (ids_are m.before p) s (front t s m k first) ps.1 other) (inl refl) in
      m.shows fault (append_right (split_at (mark_of t) (home_in (map mark_of m.before) t.id)) (shared_at (map mark_of m.before) (mark_of t) (producer_of t.value)) fault
      (subst (λ z. Has (shared_at (map mark_of m.before) (mark_of t) z) fault) (sym ps.2) here))
