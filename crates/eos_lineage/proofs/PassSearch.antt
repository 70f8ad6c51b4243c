-- What the search among the passes finds.
use Rattle.std.proofs.Common.{◌≡◌, ◌≤◌, ◌<◌, ℕ, zero, suc, List, [], ◌∷◌, length, map, Err, refl, sym, subst, ap, ◌∙◌, inl, inr, true, false, Bool, ◌&&◌, arith, IsSorted}
use Rattle.std.specs.Prelude.{slice_index_or, nat_lt, not}
use Rattle.std.specs.Ordering.{nat_cmp, is_eq, is_lt, ordering_index, ordering_reverse, ordering_then}
use Rattle.std.specs.Cmp.{IsTotalOrder}
use Rattle.std.specs.List.{list_any}
use Rattle.std.specs.List.Sorted.{IsBinarySearchResult, IsPartitionPoint, IsNonDecreasingBy}
use Rattle.std.specs.declared.cmp.Ordering.{Ordering}
use Rattle.std.specs.declared.cmp.Ordering.TheVariants.{Less, Equal, Greater}
use Rattle.std.proofs.lemmas.Bool.{cases_lt, lt-ltb, le-ltb}
use Rattle.std.proofs.lemmas.Cmp.{alike_right, tied_itself, then_total, on_total, int_cmp_total, nat_cmp_total, nat_list_cmp_total, ranked}
use Rattle.std.proofs.lemmas.List.Folds.{list_any_at, list_any_none}
use Rattle.std.proofs.lemmas.List.Sorted.{sorted_far}
use Rattle.std.proofs.lemmas.List.MinMax.{ranks_by}
use Rattle.eos_base.proofs.Exact.{is_tied, then_parts}
use Rattle.eos_lineage.specs.declared.passes.Pass.{Pass}
use Rattle.eos_lineage.specs.steps.Tables.{Passed, plain_pass, key_cmp, passed_cmp, by_pass, reaches}

pub key_total : IsTotalOrder key_cmp
key_total = then_total (on_total (λ k. k.producer) int_cmp_total) (then_total (on_total (λ k. k.epoch) int_cmp_total) (then_total (on_total (λ k. k.topic) nat_list_cmp_total) (on_total (λ k. k.partition) int_cmp_total)))

pub passed_total : IsTotalOrder passed_cmp
passed_total = then_total (on_total (λ p. p.key) key_total) (on_total (λ p. p.last) nat_cmp_total)

pub by_pass_total : IsTotalOrder by_pass
by_pass_total = on_total plain_pass passed_total

index_rises : {X : Type 0} (cmp : X → X → Ordering) → IsTotalOrder cmp → (a b k : X) → is_lt (cmp b a) ≡ false → ordering_index (cmp a k) ≤ ordering_index (cmp b k)
index_rises {X} cmp o a b k up = go (cmp a k) (cmp b k) refl refl
  where
    no : cmp b a ≡ Less → ⊥
    no e = let f = subst (λ z. is_lt z ≡ false) e up in cc

    back : cmp a k ≡ Greater → cmp k a ≡ Less
    back e = o.antisymm k a ∙ ap ordering_reverse e

    go : (p q : Ordering) → cmp a k ≡ p → cmp b k ≡ q → ordering_index p ≤ ordering_index q
    go Less q e f = omega arith
    go Equal Less e f = absurd (no (alike_right o a k b e ∙ f))
    go Equal Equal e f = omega arith
    go Equal Greater e f = omega arith
    go Greater Less e f = absurd (no (o.trans b k a f (back e)))
    go Greater Equal e f = absurd (no (o.congr b k a f ∙ back e))
    go Greater Greater e f = omega arith

-- ---- a pass against the wanted one

-- one that is less reaches no further
less_not : (p k : Passed) → passed_cmp p k ≡ Less → reaches k p ≡ false
less_not p k e = go (key_cmp p.key k.key) e
  where
    tied : (r : Ordering) → nat_cmp p.last k.last ≡ r → r ≡ Less → not (nat_lt p.last k.last) ≡ false
    tied Less f q = let lt : p.last < k.last = ranked p.last k.last Less (sym f) in rw (lt-ltb p.last k.last lt) refl
    tied Equal f q = absurd cc
    tied Greater f q = absurd cc

    go : (r : Ordering) → ordering_then r (nat_cmp p.last k.last) ≡ Less → (is_eq r && not (nat_lt p.last k.last)) ≡ false
    go Less q = refl
    go Equal q = tied (nat_cmp p.last k.last) refl q
    go Greater q = absurd cc

-- one that isn't less reaches as far where the key is tied
at_least : (p k : Passed) → (passed_cmp p k ≡ Less → ⊥) → key_cmp p.key k.key ≡ Equal → reaches k p ≡ true
at_least p k up tie = go (nat_cmp p.last k.last) refl
  where
    full : (r : Ordering) → nat_cmp p.last k.last ≡ r → passed_cmp p k ≡ r
    full r e = subst (λ z. ordering_then z (nat_cmp p.last k.last) ≡ r) (sym tie) e

    ready : not (nat_lt p.last k.last) ≡ true → reaches k p ≡ true
    ready t = rw (tie, t) refl

    go : (r : Ordering) → nat_cmp p.last k.last ≡ r → reaches k p ≡ true
    go Less e = absurd (up (full Less e))
    go Equal e = let q : p.last ≡ k.last = ranked p.last k.last Equal (sym e) in ready (rw (le-ltb p.last k.last (omega (arith, q))) refl)
    go Greater e = let q : k.last < p.last = ranked p.last k.last Greater (sym e) in ready (rw (le-ltb p.last k.last (omega (arith, q))) refl)

-- what reaches as far has the key
reached_key : (p k : Passed) → reaches k p ≡ true → key_cmp p.key k.key ≡ Equal
reached_key p k e = go (key_cmp p.key k.key) e
  where
    go : (r : Ordering) → (is_eq r && not (nat_lt p.last k.last)) ≡ true → r ≡ Equal
    go Equal e = refl
    go Less e = absurd cc
    go Greater e = absurd cc

-- of two that are not less than the wanted one, the lesser has its key where the other has
between_keys : (p q k : Passed) → (passed_cmp p k ≡ Less → ⊥) → is_lt (passed_cmp q p) ≡ false → key_cmp q.key k.key ≡ Equal → key_cmp p.key k.key ≡ Equal
between_keys p q k up order tie = go (key_cmp p.key k.key) refl
  where
    less : (passed_cmp q p ≡ Less) → ⊥
    less e = let f = subst (λ z. is_lt z ≡ false) e order in cc

    go : (r : Ordering) → key_cmp p.key k.key ≡ r → r ≡ Equal
    go Equal e = refl
    go Less e = absurd (up (subst (λ z. ordering_then z (nat_cmp p.last k.last) ≡ Less) (sym e) refl))
    go Greater e =
        let back : key_cmp k.key p.key ≡ Less = key_total.antisymm k.key p.key ∙ ap ordering_reverse e in
        let f : key_cmp q.key p.key ≡ Less = key_total.congr q.key k.key p.key tie ∙ back in
        absurd (less (subst (λ z. ordering_then z (nat_cmp q.last p.last) ≡ Less) (sym f) refl))

-- ---- the search

any_map : (k : Passed) (ys : List Pass) → list_any (reaches k) (map plain_pass ys) ≡ list_any (λ y. reaches k (plain_pass y)) ys
any_map k [] = refl
any_map k (y ∷ ys) = let r = any_map k ys in rw r refl

pub at_found : (xs : List Pass) (k : Pass) (i : ℕ) → i < length xs → ((d : Pass) → by_pass (slice_index_or xs i d) k ≡ Equal)
    → true ≡ list_any (reaches (plain_pass k)) (map plain_pass xs)
at_found xs k i bound tied =
    let p : Passed = plain_pass (slice_index_or xs i k) in
    let e : passed_cmp p (plain_pass k) ≡ Equal = tied k in
    let keys = then_parts (key_cmp p.key (plain_pass k).key) (nat_cmp p.last k.last) e in
    let t = at_least p (plain_pass k) (λ l. let q : Less ≡ Equal = sym l ∙ e in cc) keys.0 in
    sym (any_map (plain_pass k) xs ∙ list_any_at (λ y. reaches (plain_pass k) (plain_pass y)) xs i k bound t)

parted : (xs : List Pass) (k : Pass) (i : ℕ) → IsSorted by_pass xs → IsBinarySearchResult (λ y. by_pass y k) xs (Err i) → IsPartitionPoint (λ y. by_pass y k ≡ Less) (λ y. by_pass y k ≡ Greater) xs i
parted xs k i up at =
    let rises : IsNonDecreasingBy (λ y. ordering_index (by_pass y k)) xs = λ a b d le lt. index_rises by_pass by_pass_total (slice_index_or xs a d) (slice_index_or xs b d) k (sorted_far (λ x y. is_lt (by_pass x y)) (ranks_by by_pass_total (λ (x : Pass). x)) xs up a b d le lt) in
    at rises

below_is : (i n : ℕ) → true ≡ nat_lt i n → i < n
below_is i n e = elim (cases_lt i n) [ inl l ↦ l | inr g ↦ absurd (no_way (le-ltb i n g)) ]
  where
    no_way : nat_lt i n ≡ false → ⊥
    no_way f = let q : true ≡ false = e ∙ f in cc

end_is : (i n : ℕ) → false ≡ nat_lt i n → n ≤ i
end_is i n e = elim (cases_lt i n) [ inl l ↦ absurd (no_way (lt-ltb i n l)) | inr g ↦ g ]
  where
    no_way : nat_lt i n ≡ true → ⊥
    no_way f = let q : false ≡ true = e ∙ f in cc

same_default : {X : Type 0} (xs : List X) (i : ℕ) (d e : X) → i < length xs → slice_index_or xs i d ≡ slice_index_or xs i e
same_default [] i d e lt = absurd (omega (arith, lt))
same_default (x ∷ xs) zero d e lt = refl
same_default (x ∷ xs) (suc i) d e lt = same_default xs i d e (omega (arith, lt))

pub at_end : (xs : List Pass) (k : Pass) (i : ℕ) → IsSorted by_pass xs → IsBinarySearchResult (λ y. by_pass y k) xs (Err i) → false ≡ nat_lt i (length xs)
    → false ≡ list_any (reaches (plain_pass k)) (map plain_pass xs)
at_end xs k i up at after =
    let p = parted xs k i up at in
    let end = end_is i (length xs) after in
    sym (any_map (plain_pass k) xs ∙ list_any_none (λ y. reaches (plain_pass k) (plain_pass y)) xs (λ m d h. less_not (plain_pass (slice_index_or xs m d)) (plain_pass k) (p.0 m d (omega arith) (omega (arith, h, end)))))

pub at_next : (xs : List Pass) (k : Pass) (i : ℕ) (x : Pass) → IsSorted by_pass xs → IsBinarySearchResult (λ y. by_pass y k) xs (Err i) → true ≡ nat_lt i (length xs) → x ≡ slice_index_or xs i x
    → is_eq (key_cmp (plain_pass x).key (plain_pass k).key) ≡ list_any (reaches (plain_pass k)) (map plain_pass xs)
at_next xs k i x up at inside is = go (is_eq (key_cmp (plain_pass x).key (plain_pass k).key)) refl ∙ sym (any_map (plain_pass k) xs)
  where
    test : Pass → Bool
    test y = reaches (plain_pass k) (plain_pass y)

    point : IsPartitionPoint (λ y. by_pass y k ≡ Less) (λ y. by_pass y k ≡ Greater) xs i
    point = parted xs k i up at

    here : (i < length xs) × ((d : Pass) → slice_index_or xs i d ≡ x)
    here = let lt = below_is i (length xs) inside in (lt, λ d. same_default xs i d x lt ∙ sym is)

    not_less : (m : ℕ) (d : Pass) → i ≤ m → m < length xs → by_pass (slice_index_or xs m d) k ≡ Less → ⊥
    not_less m d le lt e = let g = point.1 m d le lt in let q : Less ≡ Greater = sym e ∙ g in cc

    x_not_less : by_pass x k ≡ Less → ⊥
    x_not_less = subst (λ z. by_pass z k ≡ Less → ⊥) (here.1 x) (not_less i x (omega arith) here.0)

    x_before : (m : ℕ) (d : Pass) → i ≤ m → m < length xs → is_lt (by_pass (slice_index_or xs m d) x) ≡ false
    x_before m d le lt = subst (λ z. is_lt (by_pass (slice_index_or xs m d) z) ≡ false) (here.1 d) (sorted_far (λ x y. is_lt (by_pass x y)) (ranks_by by_pass_total (λ (x : Pass). x)) xs up i m d le lt)

    later : is_eq (key_cmp (plain_pass x).key (plain_pass k).key) ≡ false → (m : ℕ) (d : Pass) → i ≤ m → m < length xs → (t : Bool) → test (slice_index_or xs m d) ≡ t → t ≡ false
    later apart m d le lt false e = refl
    later apart m d le lt true e =
        let tie = reached_key (plain_pass (slice_index_or xs m d)) (plain_pass k) e in
        let q = between_keys (plain_pass x) (plain_pass (slice_index_or xs m d)) (plain_pass k) x_not_less (x_before m d le lt) tie in
        let f = subst (λ z. is_eq z ≡ false) q apart in
        absurd cc

    fails : is_eq (key_cmp (plain_pass x).key (plain_pass k).key) ≡ false → (m : ℕ) (d : Pass) → m < length xs → test (slice_index_or xs m d) ≡ false
    fails apart m d lt = elim (cases_lt m i) [
      | inl l ↦ less_not (plain_pass (slice_index_or xs m d)) (plain_pass k) (point.0 m d (omega arith) l)
      | inr ge ↦ later apart m d ge lt (test (slice_index_or xs m d)) refl
    ]

    go : (t : Bool) → is_eq (key_cmp (plain_pass x).key (plain_pass k).key) ≡ t → t ≡ list_any test xs
    go true e = sym (list_any_at test xs i x here.0 (subst (λ z. test z ≡ true) (sym (here.1 x)) (at_least (plain_pass x) (plain_pass k) x_not_less (is_tied _ e))))
    go false e = sym (list_any_none test xs (λ m d h. fails e m d h))

-- the one at this place reaches as far
pub at_reached : (xs : List Pass) (k : Pass) (i : ℕ) (x : Pass) → true ≡ nat_lt i (length xs) → x ≡ slice_index_or xs i x → (plain_pass x).key ≡ (plain_pass k).key → k.last ≤ x.last
    → list_any (reaches (plain_pass k)) (map plain_pass xs) ≡ true
at_reached xs k i x inside is same far =
    let tied : key_cmp (plain_pass x).key (plain_pass k).key ≡ Equal = subst (λ z. key_cmp (plain_pass x).key z ≡ Equal) same (tied_itself key_total (plain_pass x).key) in
    let tie : is_eq (key_cmp (plain_pass x).key (plain_pass k).key) ≡ true = rw tied refl in
    let t : reaches (plain_pass k) (plain_pass x) ≡ true = rw (tie, le-ltb x.last k.last far) refl in
    any_map (plain_pass k) xs ∙ list_any_at (λ y. reaches (plain_pass k) (plain_pass y)) xs i x (below_is i (length xs) inside) (subst (λ z. reaches (plain_pass k) (plain_pass z) ≡ true) is t)
