-- What the search among the names finds.
use Rattle.std.proofs.Common.{◌≡◌, ◌<◌, ◌+◌, ℕ, zero, suc, List, [], ◌∷◌, length, map, Some, Result, is_ok, refl, sym, subst, ap, ◌∙◌, inl, inr, true, false, arith, IsSorted}
use Rattle.std.specs.Prelude.{slice_get, slice_index_or, nat_lt}
use Rattle.std.specs.List.{AllPairs}
use Rattle.std.specs.List.Sorted.{IsBinarySearchResult, IsSearchInRange}
use Rattle.std.specs.Ordering.{is_lt, ordering_reverse}
use Rattle.std.specs.Cmp.{IsTotalOrder}
use Rattle.std.specs.declared.cmp.Ordering.{Ordering}
use Rattle.std.specs.declared.cmp.Ordering.TheVariants.{Less, Equal}
use Rattle.std.proofs.lemmas.Bool.{ltb-true}
use Rattle.eos_base.specs.declared.partition_name.PartitionName.{PartitionName}
use Rattle.eos_base.specs.Members.{Has, is_found}
use Rattle.eos_base.specs.PartitionNames.{name_cmp}
use Rattle.eos_base.proofs.NamesInOrder.{name_total, name_exact}
use Rattle.eos_base.proofs.SortedSearch.{found_or_not}
use Rattle.eos_base.proofs.Membership.{found_by, has_found}
use Rattle.eos_commits.specs.declared.name.NameRef.{NameRef}
use Rattle.eos_commits.specs.NameTables.{plain_name, AreAscending}

abbrev pub by_name : NameRef → NameRef → Ordering
by_name a b = name_cmp (plain_name a) (plain_name b)

-- ---- members by place

pub get_has : {X : Type 0} (xs : List X) (k : ℕ) (x : X) → slice_get xs k ≡ Some x → Has xs x
get_has [] k x e = absurd cc
get_has (y ∷ ys) zero x e = inl cc
get_has (y ∷ ys) (suc k) x e = inr (get_has ys k x e)

pub get_map : {X Y : Type 0} (f : X → Y) (xs : List X) (k : ℕ) (d : X) → k < length xs → slice_get (map f xs) k ≡ Some (f (slice_index_or xs k d))
get_map f [] k d lt = absurd (omega arith)
get_map f (x ∷ xs) zero d lt = refl
get_map f (x ∷ xs) (suc k) d lt = get_map f xs k d (omega arith)

pub has_index : {X : Type 0} (xs : List X) (y : X) → Has xs y → (j : ℕ) × (j < length xs) × ((d : X) → slice_index_or xs j d ≡ y)
has_index [] y h = absurd h
has_index (x ∷ xs) y (inl e) = (0, omega arith, λ d. e)
has_index (x ∷ xs) y (inr h) = let r = has_index xs y h in let lt = r.1 in (suc r.0, omega (arith, lt), r.2)

pub pairs_head : {X : Type 0} (R : X → X → Type 0) (x : X) (xs : List X) → AllPairs R (x ∷ xs) → (y : X) → Has xs y → R x y
pairs_head R x xs up y h = let r = has_index xs y h in let lt = r.1 in subst (R x) (r.2 x) (up 0 (suc r.0) x (omega arith) (omega (arith, lt)))

pub pairs_tail : {X : Type 0} (R : X → X → Type 0) (x : X) (xs : List X) → AllPairs R (x ∷ xs) → AllPairs R xs
pairs_tail R x xs up = λ i j d lt le. up (suc i) (suc j) d (omega arith) (omega arith)

-- ---- the search

-- what is found has the name
pub found_named : (refs : List NameRef) (names : List PartitionName) (k : NameRef) (i : ℕ) → map plain_name refs ≡ names → i < length refs
    → ((d : NameRef) → by_name (slice_index_or refs i d) k ≡ Equal) → slice_get names i ≡ Some (plain_name k)
found_named refs names k i e lt tied =
    subst (λ ns. slice_get ns i ≡ Some (plain_name k)) e (get_map plain_name refs i k lt ∙ ap Some (name_exact (plain_name (slice_index_or refs i k)) (plain_name k) (tied k)))

-- one that stands at a place and is this one
pub named_at : (refs : List NameRef) (names : List PartitionName) (k : PartitionName) (n : NameRef) (i : ℕ) → map plain_name refs ≡ names → true ≡ nat_lt i (length refs) → n ≡ slice_index_or refs i n
    → plain_name n ≡ k → slice_get names i ≡ Some k
named_at refs names k n i e inside is same =
    let lt : i < length refs = ltb-true i (length refs) (sym inside) in
    subst (λ ns. slice_get ns i ≡ Some k) e (get_map plain_name refs i n lt ∙ (ap (λ (m : NameRef). Some (plain_name m)) (sym is) ∙ ap Some same))

-- where names ascend, they are in order
pub in_order : (refs : List NameRef) (names : List PartitionName) → map plain_name refs ≡ names → AreAscending names → IsSorted by_name refs
in_order refs names e up = λ k d lo hi. let q : suc k ≡ k + 1 = omega arith in subst (λ j. is_lt (by_name (slice_index_or refs j d) (slice_index_or refs k d)) ≡ false) q (neighbours refs (subst AreAscending (sym e) up) k d (omega (arith, hi)))
  where
    not_less : (a b : PartitionName) → name_cmp a b ≡ Less → is_lt (name_cmp b a) ≡ false
    not_less a b q = let r = name_total.antisymm b a ∙ ap ordering_reverse q in rw r refl

    neighbours : (rs : List NameRef) → AreAscending (map plain_name rs) → (k : ℕ) (d : NameRef) → suc k < length rs → is_lt (by_name (slice_index_or rs (suc k) d) (slice_index_or rs k d)) ≡ false
    neighbours [] up k d lt = absurd (omega (arith, lt))
    neighbours (r ∷ []) up k d lt = absurd (omega (arith, lt))
    neighbours (r ∷ s ∷ rs) up zero d lt = not_less (plain_name r) (plain_name s) (pairs_head (λ (n m : PartitionName). name_cmp n m ≡ Less) (plain_name r) (map plain_name (s ∷ rs)) up (plain_name s) (inl refl))
    neighbours (r ∷ s ∷ rs) up (suc k) d lt = neighbours (s ∷ rs) (pairs_tail (λ (n m : PartitionName). name_cmp n m ≡ Less) (plain_name r) (map plain_name (s ∷ rs)) up) k d (omega (arith, lt))

-- what is not found isn't there
pub not_there : (refs : List NameRef) (names : List PartitionName) (k : NameRef) (r : Result ℕ ℕ) → map plain_name refs ≡ names
    → IsSearchInRange r (length refs) → IsBinarySearchResult (λ y. by_name y k) refs r → is_ok r ≡ false → AreAscending names → Has names (plain_name k) → ⊥
not_there refs names k r e bound at absent up h =
    let here : is_found name_cmp (map plain_name refs) (plain_name k) ≡ true = subst (λ ns. is_found name_cmp ns (plain_name k) ≡ true) (sym e) (has_found name_cmp name_total names (plain_name k) h) in
    let same = found_or_not by_name by_name_total refs k r (in_order refs names e up) bound at in
    let is = found_by plain_name name_cmp by_name (λ x y. refl) refs k in
    let t : false ≡ true = sym absent ∙ (same ∙ (is ∙ here)) in
    cc
  where
    by_name_total : IsTotalOrder by_name
    by_name_total = record {
      antisymm = λ x y. name_total.antisymm (plain_name x) (plain_name y);
      trans = λ x y z. name_total.trans (plain_name x) (plain_name y) (plain_name z);
      congr = λ x y z. name_total.congr (plain_name x) (plain_name y) (plain_name z);
    }
