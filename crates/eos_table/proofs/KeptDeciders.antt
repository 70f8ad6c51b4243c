-- The table of the decisions, one decision further.
use Rattle.std.proofs.Common.{◌≡◌, ◌<◌, ◌+◌, ℕ, ℤ, List, [], ◌∷◌, ◌++◌, length, take, get_or, Some, refl, sym, ap, ◌∙◌, true, false, Bool, cond, ◌&&◌}
use Rattle.std.specs.Ordering.{is_eq, int_cmp, ordering_then}
use Rattle.std.specs.declared.cmp.Ordering.{Ordering}
use Rattle.std.specs.declared.cmp.Ordering.TheVariants.{Less, Equal, Greater}
use Rattle.std.specs.List.{filter}
use Rattle.std.specs.BTreeMap.{BTreeMap, get, IsEmpty, is_at}
use Rattle.std.specs.Map.{lookup}
use Rattle.std.proofs.lemmas.List.{append-nil, take_more}
use Rattle.std.proofs.lemmas.List.Elements.{filter-append}
use Rattle.eos_touch.proofs.TouchLists.{is_eq-int_cmp}
use Rattle.eos_txnlog.specs.declared.decision.Decision.{Decision}
use Rattle.eos_table.specs.MatchFaults.{is_of, deciders}
use Rattle.eos_table.specs.steps.Keys.{mine, pair_cmp}
use Rattle.eos_table.proofs.AtomicLaw.{true_is_of}
use Rattle.eos_table.specs.declared.decided.Decided.{Decided}
use Rattle.eos_table.specs.steps.Deciders.{with_decision, kept_of, decided_in, AreDeciders}

then_eq : (a b : Ordering) → is_eq (ordering_then a b) ≡ (is_eq a && is_eq b)
then_eq Less b = refl
then_eq Equal b = refl
then_eq Greater b = refl

-- the look-up's test is the definition's
same_key : (d : Decision) (p e : ℤ) → is_eq (pair_cmp (d.producer, d.epoch) (p, e)) ≡ is_of p e d
same_key d p e =
    let first = is_eq-int_cmp d.producer p in
    let second = is_eq-int_cmp d.epoch e in
    then_eq (int_cmp d.producer p) (int_cmp d.epoch e) ∙ (λ i. first i && second i)

kept_more : (xs : List Decision) (d : Decision) → Some (with_decision (kept_of xs) d) ≡ kept_of (xs ++ d ∷ [])
kept_more [] d = refl
kept_more (x ∷ []) d = refl
kept_more (x ∷ y ∷ xs) d = refl

pub none_kept : (kept : BTreeMap (ℤ × ℤ) Decided) → IsEmpty kept → AreDeciders kept []
none_kept kept e = λ p q. ap (lookup (is_at (pair_cmp (p, q)))) e

pub deciders_more : (kept new : BTreeMap (ℤ × ℤ) Decided) (before : List Decision) (d : Decision) (next : Decided) → AreDeciders kept before
    → next ≡ with_decision (get pair_cmp kept (d.producer, d.epoch)) d
    → ((p e : ℤ) → get pair_cmp new (p, e) ≡ cond (is_eq (pair_cmp (d.producer, d.epoch) (p, e))) (Some next) (get pair_cmp kept (p, e)))
    → AreDeciders new (before ++ d ∷ [])
deciders_more kept new before d next are is put = λ p e.
    put p e ∙ (ap (λ b. cond b (Some next) (get pair_cmp kept (p, e))) (same_key d p e) ∙ (go p e (is_of p e d) refl ∙ sym (ap kept_of (filter-append (is_of p e) before (d ∷ [])))))
  where
    go : (p e : ℤ) (b : Bool) → is_of p e d ≡ b → cond b (Some next) (get pair_cmp kept (p, e)) ≡ kept_of (deciders before p e ++ cond b (d ∷ []) [])
    go p e false q = are p e ∙ ap kept_of (sym (append-nil (deciders before p e)))
    go p e true q =
        let same = true_is_of d p e q in
        let key : deciders before d.producer d.epoch ≡ deciders before p e = λ i. deciders before (same.0 i) (same.1 i) in
        ap Some (is ∙ ap (λ z. with_decision z d) (are d.producer d.epoch ∙ ap kept_of key)) ∙ kept_more (deciders before p e) d

-- the decisions of a shard, one decision further
own_more : (n s : ℕ) (ds : List Decision) (i : ℕ) (d : Decision) → i < length ds → d ≡ get_or ds i d → decided_in n s (take (i + 1) ds) ≡ decided_in n s (take i ds) ++ cond (mine n s d.producer) (d ∷ []) []
own_more n s ds i d lt is =
    let own : Decision → Bool = λ z. mine n s z.producer in
    ap (filter own) (take_more ds i d lt ∙ sym (ap (λ (x : Decision). take i ds ++ x ∷ []) is)) ∙ filter-append own (take i ds) (d ∷ [])

pub own_decided : (n s : ℕ) (ds : List Decision) (i : ℕ) (d : Decision) → i < length ds → d ≡ get_or ds i d → mine n s d.producer ≡ true → decided_in n s (take i ds) ++ d ∷ [] ≡ decided_in n s (take (i + 1) ds)
own_decided n s ds i d lt is own = sym (own_more n s ds i d lt is ∙ ap (λ b. decided_in n s (take i ds) ++ cond b (d ∷ []) []) own)

pub other_decided : (n s : ℕ) (ds : List Decision) (i : ℕ) (d : Decision) → i < length ds → d ≡ get_or ds i d → mine n s d.producer ≡ false → decided_in n s (take i ds) ≡ decided_in n s (take (i + 1) ds)
other_decided n s ds i d lt is other = sym (own_more n s ds i d lt is ∙ (ap (λ b. decided_in n s (take i ds) ++ cond b (d ∷ []) []) other ∙ append-nil (decided_in n s (take i ds))))
