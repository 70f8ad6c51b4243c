-- The decisions of the evidence are those of the machine, and no two are of one producer id and epoch.
use Rattle.std.proofs.Common.{◌≡◌, ◌≢◌, ℕ, zero, suc, ◌+◌, ◌≤◌, pos, Bool, true, false, List, [], ◌∷◌, ◌++◌, map, Option, Some, None, cond, refl, sym, ap, subst, ◌∙◌, arith, inl, inr}
use Rattle.std.specs.Prelude.{unsigned_abs, ⊤}
use Rattle.std.specs.List.{All, AllPairs, filter, flat_map}
use Rattle.std.proofs.lemmas.Bool.{cases_eq}
use Rattle.eos_base.specs.Members.{Has}
use Rattle.eos_base.proofs.Membership.{append_cases, flat_has, has_flat, map_has, has_map, has_filter, filter_has}
use Rattle.eos_touch.proofs.AllTouches.{AllPairs-head, AllPairs-tail}
use Rattle.eos_batch.specs.declared.marker.Kind.{Kind}
use Rattle.eos_txnlog.specs.declared.decision.Decision.{Decision}
use Rattle.eos_txnlog.specs.declared.value.TxnValue.{TxnValue}
use Rattle.eos_fold.specs.Parts.{PartLog}
use Rattle.eos_table.specs.TransactionLog.{Unskipped, nothing, steps_of, all_steps, steps_after, kind_of_status, decided_as, decision_between, decision_of, is_transaction_part, transaction_parts}
use Rattle.eos_table.specs.TransactionLog as table
use Rattle.eos_table.specs.Atomic.{AreOfOne, NoTwo}
use Rattle.eos_machine.specs.declared.config.Config.{Config}
use Rattle.eos_machine.specs.LogIndexes.{txn_index, log_count}
use Rattle.eos_machine.specs.World.{World, fresh, log_at}
use Rattle.eos_machine.specs.Application.{Decision as Decided}
use Rattle.eos_machine.specs.Logs.{entries_of, decisions_from}
use Rattle.eos_machine.specs.Rest.{decisions_of}
use Rattle.eos_machine.proofs.Good.{Steps}
use Rattle.eos_machine.specs.Batches.{transactional_id}
use Rattle.eos_simulate.proofs.Settled.{IsSettled, AreAt}
use Rattle.eos_simulate.proofs.TxnRecords.{one_app, is_same_id, records_from, of_app, own_steps, own_among}
use Rattle.eos_simulate.proofs.TxnRules.{as_decision, own_decide}
use Rattle.eos_simulate.proofs.TransactionRule.{IsTxnLog, in_txn, at_txn, states_at, num, steps_are, step_in, one_producer}

-- ---- the decisions in one partition

abbrev pub decided_at : Config → World → ℕ → ℕ → List Decided
decided_at c w q a = decisions_from [] fresh (entries_of a (log_at w q))

own_decisions : (c : Config) (w : World) (a q : ℕ) → IsSettled c w → q ≡ txn_index c a → flat_map decision_of (own_steps c a None (num c q) 0 (log_at w q)) ≡ map (as_decision c a) (decided_at c w q a)
own_decisions c w a q s e =
    own_decide c a None fresh (num c q) 0 (log_at w q) (refl, refl) (subst (λ (p : ℕ). Steps fresh (entries_of a (log_at w p))) (sym e) (s.good.steps a))

pub record IsDecided (c : Config) (w : World) (a : ℕ) (d : Decision) : Type 0 where
  pub decision : Decided
  pub member : Has (decisions_of c w a) decision
  pub is : d ≡ as_decision c a decision

decision_in : (c : Config) (w : World) (q : ℕ) (l : PartLog) (d : Decision) → IsSettled c w → IsTxnLog c w q l → Has (flat_map decision_of (steps_of l)) d → (a : ℕ) × (q ≡ txn_index c a) × IsDecided c w a d
decision_in c w q l d s t h =
    let f = flat_has decision_of (steps_of l) d h in
    let r = step_in c w q l f.0 s t f.1 in
    let m = map_has (as_decision c r.0) (decided_at c w q r.0) d (subst (λ ds. Has ds d) (own_decisions c w r.0 q s r.1.of.place) (has_flat decision_of (own_steps c r.0 None (num c q) 0 (log_at w q)) f.0 d r.1.own f.2)) in
    (r.0, r.1.of.place, record { decision = m.0; member = subst (λ (p : ℕ). Has (decisions_from [] fresh (entries_of r.0 (log_at w p))) m.0) r.1.of.place m.1; is = sym m.2 })

-- ---- of all partitions

pub decision_of_all : (c : Config) (w : World) (ls : List PartLog) (d : Decision) → IsSettled c w → AreAt c w 0 (log_count c) ls → Has (table.decisions_of (transaction_parts ls)) d → (a : ℕ) × IsDecided c w a d
decision_of_all c w ls d s at h =
    let f = flat_has decision_of (all_steps (transaction_parts ls)) d h in
    let g = flat_has steps_of (transaction_parts ls) f.0 f.1 in
    let t = in_txn c w ls at g.0 g.1 in
    let r = decision_in c w t.0 g.0 d s t.1 (has_flat decision_of (steps_of g.0) f.0 d g.2 f.2) in
    (r.0, r.2)

pub all_decisions : (c : Config) (w : World) (ls : List PartLog) (a : ℕ) (d : Decided) → IsSettled c w → AreAt c w 0 (log_count c) ls → Has (decisions_of c w a) d → Has (table.decisions_of (transaction_parts ls)) (as_decision c a d)
all_decisions c w ls a d s at h =
    let q : ℕ = txn_index c a in
    let t = at_txn c w ls a s at in
    let m : Has (flat_map decision_of (own_steps c a None (num c q) 0 (log_at w q))) (as_decision c a d) = subst (λ ds. Has ds (as_decision c a d)) (sym (own_decisions c w a q s refl)) (has_map (as_decision c a) (decisions_of c w a) d h) in
    let f = flat_has decision_of (own_steps c a None (num c q) 0 (log_at w q)) (as_decision c a d) m in
    let k = filter_has (of_app a) (steps_after nothing (num c q) (records_from c 0 (log_at w q))) f.0
    (subst (λ us. Has us f.0) (sym (own_among c q a nothing (num c q) 0 (log_at w q) (states_at c w q t.0 s t.2) (s.written q t.2.here).reads)) f.1) in
    has_flat decision_of (all_steps (transaction_parts ls)) f.0 (as_decision c a d)
    (has_flat steps_of (transaction_parts ls) t.0 f.0 t.1 (subst (λ us. Has us f.0) (sym (steps_are c w q t.0 t.2.log)) k.0)) f.2

-- ---- no two of one producer id and epoch

no_two_append : {X : Type 0} (R : X → X → Type 0) (xs ys : List X) → NoTwo R xs → NoTwo R ys → ((x y : X) → Has xs x → Has ys y → R x y → ⊥) → NoTwo R (xs ++ ys)
no_two_append R [] ys h k d = k
no_two_append {X} R (x ∷ xs) ys h k d = (apart, no_two_append R xs ys h.1 k (λ y z m n. d y z (inr m) n))
  where
    apart : (y : X) → Has (xs ++ ys) y → R x y → ⊥
    apart y m r = elim (append_cases xs ys y m) [ inl a ↦ h.0 y a r | inr b ↦ d x y (inl refl) b r ]

-- by parts of a list that have keys
no_two_keys : {X : Type 0} (R : X → X → Type 0) (key : ℕ → X → Bool) (xs : List X) → ((x : X) → Has xs x → (a : ℕ) × (key a x ≡ true) × ((y : X) → Has xs y → R x y → key a y ≡ true))
    → ((a : ℕ) → NoTwo R (filter (key a) xs)) → NoTwo R xs
no_two_keys R key [] k h = tt
no_two_keys {X} R key (x ∷ xs) k h =
    (apart, no_two_keys R key xs (λ y m. let r = k y (inr m) in (r.0, r.1, λ z n q. r.2 z (inr n) q)) (λ a. behind a (key a x) (h a)))
  where
    behind : (a : ℕ) (b : Bool) → NoTwo R (cond b (x ∷ filter (key a) xs) (filter (key a) xs)) → NoTwo R (filter (key a) xs)
    behind a true n = n.1
    behind a false n = n

    apart : (y : X) → Has xs y → R x y → ⊥
    apart y m r =
        let i = k x (inl refl) in
        let n : NoTwo R (x ∷ filter (key i.0) xs) = rw i.1 at (h i.0) in
        n.0 y (has_filter (key i.0) xs y m (i.2 y (inr m) r)) r

-- the decisions of an application among those of a list of records
abbrev pub of_id : ℕ → Decision → Bool
of_id a d = table.same_id (transactional_id a) d.id

nothing_left : (a : ℕ) (id : List ℕ) (u : Option TxnValue) (v : Option TxnValue) → table.same_id (transactional_id a) id ≡ false → filter (of_id a) (decision_between id u v) ≡ []
nothing_left a id None v e = refl
nothing_left a id (Some u) None e = refl
nothing_left a id (Some u) (Some v) e = by (kind_of_status v.status)
  where
    by : (k : Option Kind) → filter (of_id a) (decided_as id u v k) ≡ []
    by None = refl
    by (Some k) = rw e refl

all_left : (a : ℕ) (id : List ℕ) (u : Option TxnValue) (v : Option TxnValue) → table.same_id (transactional_id a) id ≡ true → filter (of_id a) (decision_between id u v) ≡ decision_between id u v
all_left a id None v e = refl
all_left a id (Some u) None e = refl
all_left a id (Some u) (Some v) e = by (kind_of_status v.status)
  where
    by : (k : Option Kind) → filter (of_id a) (decided_as id u v k) ≡ decided_as id u v k
    by None = refl
    by (Some k) = rw e refl

filter_append : {X : Type 0} (p : X → Bool) (xs ys : List X) → filter p (xs ++ ys) ≡ filter p xs ++ filter p ys
filter_append p [] ys = refl
filter_append p (x ∷ xs) ys = elim (p x) as (λ t. cond t (x ∷ filter p (xs ++ ys)) (filter p (xs ++ ys)) ≡ cond t (x ∷ filter p xs) (filter p xs) ++ filter p ys) [
  | true ↦ ap (λ l. x ∷ l) (filter_append p xs ys)
  | false ↦ filter_append p xs ys
]

filtered : (a : ℕ) (us : List Unskipped) → filter (of_id a) (flat_map decision_of us) ≡ flat_map decision_of (filter (of_app a) us)
filtered a [] = refl
filtered a (u ∷ us) =
    filter_append (of_id a) (decision_of u) (flat_map decision_of us)
    ∙ (ap (λ l. filter (of_id a) (decision_of u) ++ l) (filtered a us)
    ∙ by (of_app a u) refl)
  where
    by : (t : Bool) → of_app a u ≡ t → filter (of_id a) (decision_of u) ++ flat_map decision_of (filter (of_app a) us) ≡ flat_map decision_of (cond t (u ∷ filter (of_app a) us) (filter (of_app a) us))
    by true e = ap (λ l. l ++ flat_map decision_of (filter (of_app a) us)) (all_left a u.id u.before u.value e)
    by false e = ap (λ l. l ++ flat_map decision_of (filter (of_app a) us)) (nothing_left a u.id u.before u.value e)

abbrev FromApart : Decided → Decided → Type 0
FromApart d e = d.from ≢ e.from

number_is : (m n : ℕ) → pos m ≡ pos n → m ≡ n
number_is m n e = ap unsigned_abs e

one_app_once : (c : Config) (a : ℕ) (ds : List Decided) → AllPairs FromApart ds → NoTwo AreOfOne (map (as_decision c a) ds)
one_app_once c a [] h = tt
one_app_once c a (d ∷ ds) h = (apart, one_app_once c a ds (AllPairs-tail FromApart d ds h))
  where
    had : (es : List Decided) → All (FromApart d) es → (e : Decided) → Has es e → d.from ≢ e.from
    had [] k e m = absurd m
    had (f ∷ es) k e (inl q) = subst (λ (g : Decided). d.from ≢ g.from) q (k 0 f (omega arith))
    had (f ∷ es) k e (inr m) = had es (λ i g l. k (suc i) g (omega (arith, l))) e m

    apart : (y : Decision) → Has (map (as_decision c a) ds) y → AreOfOne (as_decision c a d) y → ⊥
    apart y m r =
        let i = map_has (as_decision c a) ds y m in
        had ds (AllPairs-head FromApart d ds h) i.0 i.1 (number_is d.from i.0.from (r.epoch ∙ ap (λ (z : Decision). z.epoch) (sym i.2)))

-- in one partition
once_in : (c : Config) (w : World) (q : ℕ) (l : PartLog) → IsSettled c w → IsTxnLog c w q l → NoTwo AreOfOne (flat_map decision_of (steps_of l))
once_in c w q l s t = no_two_keys AreOfOne of_id (flat_map decision_of (steps_of l)) keyed each
  where
    keyed : (d : Decision) → Has (flat_map decision_of (steps_of l)) d → (a : ℕ) × (of_id a d ≡ true) × ((e : Decision) → Has (flat_map decision_of (steps_of l)) e → AreOfOne d e → of_id a e ≡ true)
    keyed d h =
        let r = decision_in c w q l d s t h in (
          r.0,
          is_same_id (transactional_id r.0) d.id (sym (ap (λ (x : Decision). x.id) r.2.is)),
          λ e k o.
              let i = decision_in c w q l e s t k in
              let a : r.0 ≡ i.0 = one_producer r.0 i.0 (sym (ap (λ (x : Decision). x.producer) r.2.is) ∙ (o.producer ∙ ap (λ (x : Decision). x.producer) i.2.is)) in
              is_same_id (transactional_id r.0) e.id (ap transactional_id a ∙ sym (ap (λ (x : Decision). x.id) i.2.is)),
        )

    own : (a : ℕ) → filter (of_id a) (flat_map decision_of (steps_of l)) ≡ flat_map decision_of (own_steps c a None (num c q) 0 (log_at w q))
    own a =
        filtered a (steps_of l)
        ∙ ap (flat_map decision_of) (ap (filter (of_app a)) (steps_are c w q l t.log) ∙ own_among c q a nothing (num c q) 0 (log_at w q) (states_at c w q l s t) (s.written q t.here).reads)

    -- an application of another partition has none here
    each : (a : ℕ) → NoTwo AreOfOne (filter (of_id a) (flat_map decision_of (steps_of l)))
    each a = elim (cases_eq q (txn_index c a)) [
      | inl e ↦ subst (NoTwo AreOfOne) (sym (own a ∙ own_decisions c w a q s e))
          (one_app_once c a (decided_at c w q a) (subst (λ (p : ℕ). AllPairs FromApart (decisions_from [] fresh (entries_of a (log_at w p)))) (sym e) (s.atomic a).once))
      | inr d ↦ no_two_none (filter (of_id a) (flat_map decision_of (steps_of l))) (λ x m.
          let f = filter_has (of_id a) (flat_map decision_of (steps_of l)) x m in
          let r = decision_in c w q l x s t f.0 in
          let b : a ≡ r.0 = one_app a r.0 (Rattle.eos_simulate.proofs.TxnRecords.same_id_is (transactional_id a) x.id f.1 ∙ ap (λ (y : Decision). y.id) r.2.is) in
          d (r.1 ∙ ap (txn_index c) (sym b)))
    ]
      where
        no_two_none : (xs : List Decision) → ((x : Decision) → Has xs x → ⊥) → NoTwo AreOfOne xs
        no_two_none [] n = tt
        no_two_none (x ∷ xs) n = absurd (n x (inl refl))

-- in all
flat_append : {X Y : Type 0} (f : X → List Y) (xs ys : List X) → flat_map f (xs ++ ys) ≡ flat_map f xs ++ flat_map f ys
flat_append f [] ys = refl
flat_append f (x ∷ xs) ys = ap (λ l. f x ++ l) (flat_append f xs ys) ∙ sym (Rattle.std.proofs.Common.append_assoc (f x) (flat_map f xs) (flat_map f ys))

-- parts of places from this one on
abbrev pub AreTxnFrom : Config → World → ℕ → List PartLog → Type 0
AreTxnFrom c w a [] = ⊤
AreTxnFrom c w a (l ∷ ls) = (q : ℕ) × (a ≤ q) × IsTxnLog c w q l × AreTxnFrom c w (q + 1) ls

less_from : (c : Config) (w : World) (a b : ℕ) (ls : List PartLog) → a ≤ b → AreTxnFrom c w b ls → AreTxnFrom c w a ls
less_from c w a b [] l h = tt
less_from c w a b (k ∷ ls) l h = (h.0, omega (arith, l, h.1), h.2, h.3)

txn_from : (c : Config) (w : World) (a n : ℕ) (ls : List PartLog) → a + n ≤ log_count c → AreAt c w a n ls → AreTxnFrom c w a (transaction_parts ls)
txn_from c w a zero [] m h = tt
txn_from c w a zero (l ∷ ls) m h = absurd h
txn_from c w a (suc n) [] m h = tt
txn_from c w a (suc n) (l ∷ ls) m h = by (is_transaction_part l) refl (txn_from c w (a + 1) n ls (omega (arith, m)) h.1)
  where
    by : (t : Bool) → is_transaction_part l ≡ t → AreTxnFrom c w (a + 1) (transaction_parts ls) → AreTxnFrom c w a (cond t (l ∷ transaction_parts ls) (transaction_parts ls))
    by true e k =
        let t = Rattle.eos_simulate.proofs.TransactionRule.txn_within c a (subst (λ x. Rattle.std.specs.Ordering.is_eq (Rattle.std.specs.Cmp.Lexicographic.slice_cmp Rattle.std.specs.Ordering.nat_cmp x Rattle.eos_machine.specs.LogIndexes.transactions_topic) ≡ true) h.0.topic e) in
        (a, omega arith, record { first = t.0; last = t.1; here = omega (arith, m); log = h.0 }, k)
    by false e k = less_from c w a (a + 1) (transaction_parts ls) (omega arith) k

later_decision : (c : Config) (w : World) (a : ℕ) (ls : List PartLog) (d : Decision) → IsSettled c w → AreTxnFrom c w a ls → Has (flat_map decision_of (all_steps ls)) d → (b : ℕ) × (a ≤ txn_index c b) × IsDecided c w b d
later_decision c w a [] d s h m = absurd m
later_decision c w a (l ∷ ls) d s h m = elim (append_cases (flat_map decision_of (steps_of l)) (flat_map decision_of (all_steps ls)) d (subst (λ ds. Has ds d) (flat_append decision_of (steps_of l) (all_steps ls)) m)) [
  | inl x ↦ let r = decision_in c w h.0 l d s h.2 x in (r.0, omega (arith, h.1, r.1), r.2)
  | inr x ↦ let r = later_decision c w (h.0 + 1) ls d s h.3 x in (r.0, omega (arith, h.1, r.1), r.2)
]

once_from : (c : Config) (w : World) (a : ℕ) (ls : List PartLog) → IsSettled c w → AreTxnFrom c w a ls → NoTwo AreOfOne (flat_map decision_of (all_steps ls))
once_from c w a [] s h = tt
once_from c w a (l ∷ ls) s h = subst (NoTwo AreOfOne) (sym (flat_append decision_of (steps_of l) (all_steps ls)))
    (no_two_append AreOfOne (flat_map decision_of (steps_of l)) (flat_map decision_of (all_steps ls)) (once_in c w h.0 l s h.2) (once_from c w (h.0 + 1) ls s h.3) apart)
  where
    apart : (x y : Decision) → Has (flat_map decision_of (steps_of l)) x → Has (flat_map decision_of (all_steps ls)) y → AreOfOne x y → ⊥
    apart x y m n r =
        let i = decision_in c w h.0 l x s h.2 m in
        let j = later_decision c w (h.0 + 1) ls y s h.3 n in
        let e : i.0 ≡ j.0 = one_producer i.0 j.0 (sym (ap (λ (z : Decision). z.producer) i.2.is) ∙ (r.producer ∙ ap (λ (z : Decision). z.producer) j.2.is)) in
        let p : txn_index c i.0 ≡ txn_index c j.0 = ap (txn_index c) e in
        absurd (omega (arith, p, i.1, j.1))

pub once : (c : Config) (w : World) (ls : List PartLog) → IsSettled c w → AreAt c w 0 (log_count c) ls → NoTwo AreOfOne (table.decisions_of (transaction_parts ls))
once c w ls s at = once_from c w 0 (transaction_parts ls) s (txn_from c w 0 (log_count c) ls (omega arith) at)
