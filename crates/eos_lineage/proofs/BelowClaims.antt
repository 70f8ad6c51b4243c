-- The sorted claims of inputs below their committed offsets.
use Rattle.std.proofs.Common.{◌≡◌, ◌≤◌, ◌<◌, ℕ, suc, List, [], ◌∷◌, length, map, refl, sym, subst, ◌∙◌, inl, inr, true, false, Bool, arith, IsPermutation, IsSorted}
use Rattle.std.specs.Prelude.{slice_index_or}
use Rattle.std.specs.List.{filter}
use Rattle.std.specs.Ordering.{nat_cmp, is_eq, is_lt, is_gt, ordering_then, ordering_reverse}
use Rattle.std.specs.Cmp.{IsTotalOrder}
use Rattle.std.specs.declared.cmp.Ordering.{Ordering}
use Rattle.std.specs.declared.cmp.Ordering.TheVariants.{Less, Equal, Greater}
use Rattle.std.proofs.lemmas.Cmp.{then_total, on_total, nat_cmp_total}
use Rattle.std.proofs.lemmas.List.Sorted.{sorted_far, list_any-IsPermutation, IsPermutation-map}
use Rattle.std.proofs.lemmas.List.MinMax.{ranks_by}
use Rattle.eos_base.specs.Members.{Has}
use Rattle.eos_base.specs.Least.{UpTo}
use Rattle.eos_base.specs.steps.Least.{IsExact}
use Rattle.eos_base.proofs.Exact.{then_parts, nat_exact}
use Rattle.eos_base.proofs.Membership.{found_has, has_found, map_has, has_map, filter_has, has_filter}
use Rattle.eos_claims.specs.declared.neighbours.NumberedClaim.{NumberedClaim}
use Rattle.eos_claims.specs.Outputs.{PlacedClaim, Application, IsBelow}
use Rattle.eos_claims.specs.Faults.{place_cmp}
use Rattle.eos_claims.specs.Candidates.{Counted, counted, claim_cmp, is_input, is_committed, IsInOrder, AreBelow}
use Rattle.eos_claims.specs.Plain.{plain_claim}
use Rattle.eos_claims.proofs.ClaimTests.{below_is, is_input_has, is_less_int}
use Rattle.eos_claims.proofs.ClaimOrder.{both_from}
use Rattle.eos_claims.proofs.FaultOrder.{place_total, place_exact, claim_total}
use Rattle.eos_lineage.specs.steps.Walks.{claim_order, by_claim, is_below}
use Rattle.eos_commits.proofs.NameSearch.{has_index}

pub order_total : IsTotalOrder claim_order
order_total = then_total (on_total (λ c. c.source) place_total) (then_total (on_total (λ c. c.output) nat_cmp_total) (then_total (on_total (λ c. c.at) place_total) (on_total (λ c. c.of) nat_cmp_total)))

pub order_exact : IsExact claim_order
order_exact c d e =
    let r = then_parts (place_cmp c.source d.source) _ e in
    let s = then_parts (nat_cmp c.output d.output) _ r.1 in
    let t = then_parts (place_cmp c.at d.at) (nat_cmp c.of d.of) s.1 in
    let source = place_exact c.source d.source r.0 in
    let output = nat_exact c.output d.output s.0 in
    let at = place_exact c.at d.at t.0 in
    let of = nat_exact c.of d.of t.1 in
    λ i. record { source = source i; output = output i; of = of i; at = at i }

-- what isn't less in the whole order isn't in the order of claims
not_less : (a b c d : Ordering) → is_lt (ordering_then a (ordering_then b (ordering_then c d))) ≡ false → is_lt (ordering_then a (ordering_then b c)) ≡ false
not_less Less b c d e = e
not_less Greater b c d e = refl
not_less Equal Less c d e = e
not_less Equal Greater c d e = refl
not_less Equal Equal Less d e = e
not_less Equal Equal Greater d e = refl
not_less Equal Equal Equal d e = refl

turned : (o p : Ordering) → p ≡ ordering_reverse o → is_lt o ≡ false → is_gt p ≡ false
turned Less p e f = absurd cc
turned Equal p e f = rw e refl
turned Greater p e f = rw e refl

upto : (c d : Counted) → is_lt (claim_order d c) ≡ false → UpTo claim_cmp c d
upto c d e = turned (claim_cmp d c) (claim_cmp c d) (claim_total.antisymm c d)
    (not_less (place_cmp d.source c.source) (nat_cmp d.output c.output) (place_cmp d.at c.at) (nat_cmp d.of c.of) e)

in_order_far : (xs : List NumberedClaim) → ((i j : ℕ) (d : NumberedClaim) → i ≤ j → j < length xs → is_lt (by_claim (slice_index_or xs j d) (slice_index_or xs i d)) ≡ false)
    → IsInOrder claim_cmp (map plain_claim xs)
in_order_far [] far = tt
in_order_far (x ∷ xs) far = (head, in_order_far xs (λ i j d le lt. far (suc i) (suc j) d (omega (arith, le)) (omega (arith, lt))))
  where
    head : (y : Counted) → Has (map plain_claim xs) y → UpTo claim_cmp (plain_claim x) y
    head y h =
        let m = map_has plain_claim xs y h in
        let k = has_index xs m.0 m.1 in
        let lt = k.1 in
        let f : is_lt (by_claim (slice_index_or xs k.0 x) x) ≡ false = far 0 (suc k.0) x (omega arith) (omega (arith, lt)) in
        subst (UpTo claim_cmp (plain_claim x)) m.2 (upto (plain_claim x) (plain_claim m.0) (subst (λ z. is_lt (by_claim z x) ≡ false) (k.2 x) f))

by_claim_total : IsTotalOrder by_claim
by_claim_total = on_total plain_claim order_total

pub in_order : (xs : List NumberedClaim) → IsSorted by_claim xs → IsInOrder claim_cmp (map plain_claim xs)
in_order xs up = in_order_far xs (λ i j d le lt. sorted_far (λ x y. is_lt (by_claim x y)) (ranks_by by_claim_total (λ (x : NumberedClaim). x)) xs up i j d le lt)

-- members stay in another order
pub moved : (ns ms : List Counted) → IsPermutation ns ms → (n : Counted) → Has ns n → Has ms n
moved ns ms p n h = found_has claim_order order_exact ms n (sym (list_any-IsPermutation (λ y. is_eq (claim_order y n)) ns ms p) ∙ has_found claim_order order_total ns n h)

pub moved_back : (ns ms : List Counted) → IsPermutation ns ms → (n : Counted) → Has ms n → Has ns n
moved_back ns ms p n h = found_has claim_order order_exact ns n (list_any-IsPermutation (λ y. is_eq (claim_order y n)) ns ms p ∙ has_found claim_order order_total ms n h)

pub is_below_true : (a : Application) (c : PlacedClaim) → IsBelow a c.source → is_below a c ≡ true
is_below_true a c b =
    let i = is_input_has a c.source b.input in
    let m : is_committed a c.source ≡ true = is_less_int _ _ b.below in
    rw (i, m) refl

pub below_from : (a : Application) (c : PlacedClaim) → is_below a c ≡ true → IsBelow a c.source
below_from a c e = let r = both_from (is_input a c.source) (is_committed a c.source) e in below_is a c.source r.0 r.1

-- the sorted claims are those below
pub are_below : (a : Application) (kept sorted : List NumberedClaim) → map plain_claim kept ≡ map counted (filter (is_below a) a.claims)
    → IsPermutation kept sorted → IsSorted by_claim sorted → AreBelow a (map plain_claim sorted)
are_below a kept sorted same perm up = record {
  in_order = in_order sorted up;
  sound = λ n h.
      let k = subst (λ ns. Has ns n) same (moved_back (map plain_claim kept) (map plain_claim sorted) (IsPermutation-map plain_claim kept sorted perm) n h) in
      let m = map_has counted (filter (is_below a) a.claims) n k in
      let f = filter_has (is_below a) a.claims m.0 m.1 in
      (m.0, f.0, m.2, below_from a m.0 f.1);
  whole = λ c h b. moved (map plain_claim kept) (map plain_claim sorted) (IsPermutation-map plain_claim kept sorted perm) (counted c)
      (subst (λ ns. Has ns (counted c)) (sym same) (has_map counted (filter (is_below a) a.claims) c (has_filter (is_below a) a.claims c h (is_below_true a c b))));
}

-- where all are below, none is left out
filter_all : {X : Type 0} (p : X → Bool) (xs : List X) → ((x : X) → Has xs x → p x ≡ true) → filter p xs ≡ xs
filter_all p [] all = refl
filter_all p (x ∷ xs) all = let t = all x (inl refl) in let r = filter_all p xs (λ y h. all y (inr h)) in rw (t, r) refl

pub all_below : (a : Application) → ((c : PlacedClaim) → Has a.claims c → IsBelow a c.source) → filter (is_below a) a.claims ≡ a.claims
all_below a named = filter_all (is_below a) a.claims (λ c h. is_below_true a c (named c h))
