-- The least fault of an application's outputs and the counts, from the walks.
use Rattle.std.proofs.Common.{◌≡◌, ◌+◌, ◌<◌, ℕ, zero, suc, List, [], ◌∷◌, ◌++◌, length, map, take, get_or, fold, Option, Some, None, refl, sym, subst, ap, ◌∙◌, inl, inr, true, false, Bool, not, ◌&&◌, arith, IsPermutation, IsSorted, cond}
use Rattle.std.specs.List.{flat_map, filter, list_any}
use Rattle.std.specs.Ordering.{is_eq, is_lt, ordering_then}
use Rattle.std.specs.declared.cmp.Ordering.{Ordering}
use Rattle.std.specs.declared.cmp.Ordering.TheVariants.{Less, Equal, Greater}
use Rattle.std.proofs.lemmas.List.Sums.{fold-append}
use Rattle.std.proofs.lemmas.List.Sorted.{IsPermutation-map}
use Rattle.std.proofs.lemmas.List.{append-nil, map-append}
use Rattle.std.proofs.lemmas.Grind.{flat_map-append}
use Rattle.std.proofs.lemmas.List.Elements.{filter-append}
use Rattle.std.proofs.Math.Seq.{take-suc}
use Rattle.eos_base.specs.Members.{Has}
use Rattle.eos_base.specs.Least.{IsLeastOrNone, NoneStands, lesser_of}
use Rattle.eos_base.proofs.Membership.{map_has, has_map, filter_has, has_filter}
use Rattle.eos_claims.specs.declared.fault.OutputFault.{OutputFault}
use Rattle.eos_claims.specs.declared.neighbours.NumberedClaim.{NumberedClaim}
use Rattle.eos_claims.specs.declared.place.Place.{Place}
use Rattle.eos_claims.specs.Outputs.{Application, ReadsSources, Exact, IsBelow}
use Rattle.eos_claims.specs.Faults.{place_cmp, fault_cmp, Stands}
use Rattle.eos_claims.specs.Candidates.{Counted, counted, when, missing, shown_by, unclaimed, runs, candidates, names, is_committed, AreApart}
use Rattle.eos_claims.specs.Plain.{plain_claim, plain_place}
use Rattle.eos_claims.proofs.CandidatesWhole.{least}
use Rattle.eos_claims.proofs.OutputsLaw.{law}
use Rattle.eos_claims.proofs.ClaimTests.{any_has, has_any, less_is}
use Rattle.eos_claims.proofs.ClaimOrder.{same_place_true, true_same_place}
use Rattle.eos_commits.specs.Applications.{inputs_below}
use Rattle.eos_lineage.specs.Lineage.{outputs_in}
use Rattle.eos_lineage.specs.steps.Walks.{HasWalked, begun, is_below, is_no_note, by_claim, by_source, is_named, AreNamed, IsOutputsAnswer, one_if}
use Rattle.eos_lineage.proofs.BelowClaims.{are_below, all_below, is_below_true, moved, moved_back}
use Rattle.eos_commits.proofs.MappedMore.{length_mapped}

-- ---- an input

pub unclaimed_same : (m m' k k' : Bool) (i : Place) → m ≡ m' → (m' ≡ true → k ≡ k') → when (m && not k) (missing i 1) ≡ when (m' && not k') (missing i 1)
unclaimed_same m true k k' i e f = λ j. when (e j && not (f refl j)) (missing i 1)
unclaimed_same m false k k' i e f = λ j. when (part j) (missing i 1)
  where
    part : (m && not k) ≡ (false && not k')
    part = ap (λ b. b && not k) e

-- ---- one more of a list

pub fold_more : {B X Y F : Type 0} (step : B → F → B) (g : Y → List F) (f : X → Y) (b : B) (xs : List X) (i : ℕ) (d : X) → i < length xs
    → fold step b (flat_map g (map f (take (i + 1) xs))) ≡ fold step (fold step b (flat_map g (map f (take i xs)))) (g (f (get_or xs i d)))
fold_more step g f b xs i d lt =
    let e : suc i ≡ i + 1 = omega arith in
    let cut : map f (take (suc i) xs) ≡ map f (take i xs) ++ (f (get_or xs i d) ∷ []) = ap (map f) (take-suc xs i d lt) ∙ map-append f (take i xs) (get_or xs i d ∷ []) in
    let whole = ap (flat_map g) cut ∙ (flat_map-append g (map f (take i xs)) (f (get_or xs i d) ∷ []) ∙ ap (λ zs. flat_map g (map f (take i xs)) ++ zs) (append-nil (g (f (get_or xs i d))))) in
    subst (λ j. fold step b (flat_map g (map f (take j xs))) ≡ fold step (fold step b (flat_map g (map f (take i xs)))) (g (f (get_or xs i d)))) e
    (ap (fold step b) whole ∙ fold-append step b (flat_map g (map f (take i xs))) (g (f (get_or xs i d))))

length_append : {X : Type 0} (xs ys : List X) → length (xs ++ ys) ≡ length xs + length ys
length_append [] ys = omega arith
length_append (x ∷ xs) ys = let r = length_append xs ys in omega (arith, r)

pub count_more : {X Y : Type 0} (p : Y → Bool) (f : X → Y) (xs : List X) (i : ℕ) (d : X) → i < length xs
    → length (filter p (map f (take (i + 1) xs))) ≡ length (filter p (map f (take i xs))) + length (filter p (f (get_or xs i d) ∷ []))
count_more p f xs i d lt =
    let e : suc i ≡ i + 1 = omega arith in
    let cut : map f (take (suc i) xs) ≡ map f (take i xs) ++ (f (get_or xs i d) ∷ []) = ap (map f) (take-suc xs i d lt) ∙ map-append f (take i xs) (get_or xs i d ∷ []) in
    subst (λ j. length (filter p (map f (take j xs))) ≡ length (filter p (map f (take i xs))) + length (filter p (f (get_or xs i d) ∷ []))) e
    (ap (λ zs. length (filter p zs)) cut ∙ (ap length (filter-append p (map f (take i xs)) (f (get_or xs i d) ∷ [])) ∙ length_append (filter p (map f (take i xs))) (filter p (f (get_or xs i d) ∷ []))))

pub counted_one : {X : Type 0} (p : X → Bool) (x : X) → length (filter p (x ∷ [])) ≡ one_if (p x)
counted_one p x = go (p x)
  where
    go : (b : Bool) → length (cond b (x ∷ []) []) ≡ one_if b
    go true = refl
    go false = refl

pub has_place : {X Y : Type 0} (f : X → Y) (xs : List X) (i : ℕ) (d : X) → i < length xs → Has (map f xs) (f (get_or xs i d))
has_place f [] i d lt = absurd (omega (arith, lt))
has_place f (x ∷ xs) zero d lt = inl refl
has_place f (x ∷ xs) (suc i) d lt = inr (has_place f xs i d (omega (arith, lt)))

-- ---- which inputs are named

pub both_ways : (b c : Bool) → (b ≡ true → c ≡ true) → (c ≡ true → b ≡ true) → b ≡ c
both_ways true c f g = sym (f refl)
both_ways false true f g = g refl
both_ways false false f g = refl

first_alike : (o r : Ordering) → is_lt (ordering_then o r) ≡ false → is_lt o ≡ false
first_alike Less r e = e
first_alike Equal r e = refl
first_alike Greater r e = refl

sources_in_order : (cs : List NumberedClaim) → IsSorted by_claim cs → IsSorted by_source cs
sources_in_order cs up = λ k d le lt. first_alike _ _ (up k d le lt)

pub are_named : (a : Application) (kept sorted : List NumberedClaim) → map plain_claim kept ≡ map counted (filter (is_below a) a.claims) → IsPermutation kept sorted → IsSorted by_claim sorted → AreNamed a sorted
are_named a kept sorted same perm up = record { in_order = sources_in_order sorted up; named = λ i has m. both_ways (is_named sorted i) (list_any (names i) a.claims) (there i) (back i has m) }
  where
    ordered : IsPermutation (map plain_claim kept) (map plain_claim sorted)
    ordered = IsPermutation-map plain_claim kept sorted perm

    at : Place → NumberedClaim → Bool
    at i c = is_eq (place_cmp (plain_place c.source) i)

    there : (i : Place) → is_named sorted i ≡ true → list_any (names i) a.claims ≡ true
    there i e =
        let n = any_has (at i) sorted e in
        let k = moved_back (map plain_claim kept) (map plain_claim sorted) ordered (plain_claim n.0) (has_map plain_claim sorted n.0 n.1) in
        let c = map_has counted (filter (is_below a) a.claims) (plain_claim n.0) (subst (λ ns. Has ns (plain_claim n.0)) same k) in
        let f = filter_has (is_below a) a.claims c.0 c.1 in
        has_any (names i) a.claims c.0 f.0 (true_same_place c.0.source i (ap (λ (m : Counted). m.source) c.2 ∙ same_place_true (plain_place n.0.source) i n.2))

    back : (i : Place) → Has a.inputs i → is_committed a i ≡ true → list_any (names i) a.claims ≡ true → is_named sorted i ≡ true
    back i has m e =
        let c = any_has (names i) a.claims e in
        let s : c.0.source ≡ i = same_place_true c.0.source i c.2 in
        let below : IsBelow a c.0.source = subst (IsBelow a) (sym s) (record { input = has; below = less_is _ _ m }) in
        let k = has_map counted (filter (is_below a) a.claims) c.0 (has_filter (is_below a) a.claims c.0 c.1 (is_below_true a c.0 below)) in
        let n = moved (map plain_claim kept) (map plain_claim sorted) ordered (counted c.0) (subst (λ ns. Has ns (counted c.0)) (sym same) k) in
        let q = map_has plain_claim sorted (counted c.0) n in
        has_any (at i) sorted q.0 q.1 (true_same_place (plain_place q.0.source) i (ap (λ (m : Counted). m.source) q.2 ∙ s))

-- ---- the answer

pub tallied : (a : Application) (kept sorted : List NumberedClaim) (b0 b1 b2 : Option OutputFault) (inputs outputs : ℕ) → ReadsSources a → AreApart a
    → HasWalked a begun (record { best = b0; below = map plain_claim kept }) a.claims → IsPermutation kept sorted → IsSorted by_claim sorted
    → b1 ≡ fold (lesser_of fault_cmp) b0 (runs (map plain_claim sorted)) → b2 ≡ fold (lesser_of fault_cmp) b1 (flat_map (unclaimed a) a.inputs)
    → inputs ≡ length (inputs_below a) → outputs ≡ length (filter is_no_note (map plain_claim kept)) → IsOutputsAnswer a b2 inputs outputs
tallied a kept sorted b0 b1 b2 inputs outputs reads apart walked perm up first second counts notes = go b2 (least a (map plain_claim sorted) reads apart (are_below a kept sorted walked.below perm up) b2 whole)
  where
    whole : b2 ≡ fold (lesser_of fault_cmp) None (candidates a (map plain_claim sorted))
    whole = second ∙ (ap (λ b. fold (lesser_of fault_cmp) b (flat_map (unclaimed a) a.inputs)) (first ∙ ap (λ b. fold (lesser_of fault_cmp) b (runs (map plain_claim sorted))) walked.best)
        ∙ (sym (fold-append (lesser_of fault_cmp) (fold (lesser_of fault_cmp) None (flat_map (shown_by a) a.claims)) (runs (map plain_claim sorted)) (flat_map (unclaimed a) a.inputs))
        ∙ sym (fold-append (lesser_of fault_cmp) None (flat_map (shown_by a) a.claims) (runs (map plain_claim sorted) ++ flat_map (unclaimed a) a.inputs))))

    exact : NoneStands (Stands a) → Exact a
    exact none = (law a reads).1 none

    all_counted : NoneStands (Stands a) → outputs ≡ length (outputs_in a)
    all_counted none = notes ∙ (ap (λ ns. length (filter is_no_note ns)) (walked.below ∙ ap (map counted) (all_below a (exact none).named)) ∙ length_mapped is_no_note counted a.claims)

    go : (o : Option OutputFault) → IsLeastOrNone fault_cmp (Stands a) o → IsOutputsAnswer a o inputs outputs
    go None none = (none, counts, all_counted none)
    go (Some f) l = l
