-- Records that are found one after the other.
use Rattle.std.proofs.Common.{◌≡◌, ℕ, ◌+◌, ◌<◌, ◌≤◌, suc, zero, List, [], ◌∷◌, ◌++◌, length, take, drop, map, refl, sym, ap, subst, ◌∙◌, arith, Some, slice_get, get_or, append_assoc}
use Rattle.std.specs.List.{filter}
use Rattle.std.proofs.lemmas.List.{append-nil, map-append, take_more}
use Rattle.std.proofs.lemmas.Grind.{flat_map-append}
use Rattle.std.proofs.lemmas.List.Elements.{filter-append}
use Rattle.eos_fold.specs.Parts.{PartLog}
use Rattle.eos_fold.specs.declared.item.Item.{Item}
use Rattle.eos_sought.specs.declared.finding.Find.{Find}
use Rattle.eos_sought.specs.declared.sought.Sought.{Sought}
use Rattle.eos_sought.specs.Sought.{meets}
use Rattle.eos_sought.specs.declared.finding.Finds.{Finds}
use Rattle.eos_sought.specs.Finds.{find_in, among, all_in, all_of, AreFirst}

pub take_kept : {X : Type 0} (n : ℕ) (xs : List X) (x : X) → length xs < n → take n (xs ++ x ∷ []) ≡ take n xs ++ x ∷ []
take_kept zero xs x lt = absurd (omega (arith, lt))
take_kept (suc n) [] x lt = go n
  where
    go : (n : ℕ) → take (suc n) (x ∷ []) ≡ x ∷ []
    go zero = refl
    go (suc n) = refl
take_kept (suc n) (y ∷ ys) x lt = ap (λ zs. y ∷ zs) (take_kept n ys x (omega (arith, lt)))

pub take_full : {X : Type 0} (n : ℕ) (xs : List X) (x : X) → n ≤ length xs → take n (xs ++ x ∷ []) ≡ take n xs
take_full zero xs x le = refl
take_full (suc n) [] x le = absurd (omega (arith, le))
take_full (suc n) (y ∷ ys) x le = ap (λ zs. y ∷ zs) (take_full n ys x (omega (arith, le)))

-- the record at the front of those that are left
pub at_front : {X : Type 0} (i : ℕ) (xs : List X) (x : X) (left : List X) → drop i xs ≡ x ∷ left → slice_get xs i ≡ Some x
at_front zero [] x left e = absurd (omega (arith, ap length e))
at_front zero (y ∷ ys) x left e = cc
at_front (suc i) [] x left e = absurd (omega (arith, ap length e))
at_front (suc i) (y ∷ ys) x left e = at_front i ys x left e

behind : {X : Type 0} (i : ℕ) (xs : List X) (x : X) (left : List X) → drop i xs ≡ x ∷ left → drop (suc i) xs ≡ left
behind zero [] x left e = absurd (omega (arith, ap length e))
behind zero (y ∷ ys) x left e = cc
behind (suc i) [] x left e = absurd (omega (arith, ap length e))
behind (suc i) (y ∷ ys) x left e = behind i ys x left e

pub left_behind : {X : Type 0} (i : ℕ) (xs : List X) (x : X) (left : List X) → drop i xs ≡ x ∷ left → drop (i + 1) xs ≡ left
left_behind i xs x left e = let n : i + 1 ≡ suc i = omega arith in ap (λ k. drop k xs) n ∙ behind i xs x left e

more : {X : Type 0} (i : ℕ) (xs : List X) (x : X) (left : List X) → drop i xs ≡ x ∷ left → take (suc i) xs ≡ take i xs ++ x ∷ []
more zero [] x left e = absurd (omega (arith, ap length e))
more zero (y ∷ ys) x left e = cc
more (suc i) [] x left e = absurd (omega (arith, ap length e))
more (suc i) (y ∷ ys) x left e = ap (λ zs. y ∷ zs) (more i ys x left e)

pub one_more : {X : Type 0} (i : ℕ) (xs : List X) (x : X) (left : List X) → drop i xs ≡ x ∷ left → take (i + 1) xs ≡ take i xs ++ x ∷ []
one_more i xs x left e = let n : i + 1 ≡ suc i = omega arith in ap (λ k. take k xs) n ∙ more i xs x left e

pub is_inside : {X : Type 0} (i : ℕ) (xs : List X) (x : X) (left : List X) → drop i xs ≡ x ∷ left → i < length xs
is_inside zero [] x left e = absurd (omega (arith, ap length e))
is_inside zero (y ∷ ys) x left e = omega arith
is_inside (suc i) [] x left e = absurd (omega (arith, ap length e))
is_inside (suc i) (y ∷ ys) x left e = omega (arith, is_inside i ys x left e)

pub found_more : (sought : Sought) (p : PartLog) (xs : List Item) (x : Item) → among sought p (xs ++ x ∷ []) ≡ among sought p xs ++ among sought p (x ∷ [])
found_more sought p xs x = ap (map (find_in p)) (filter-append (meets sought p) xs (x ∷ [])) ∙ map-append (find_in p) (filter (meets sought p) xs) (filter (meets sought p) (x ∷ []))

-- ---- the state of the search

pub kept_on : (sought : Sought) (p : PartLog) (xs : List Find) (i : ℕ) (x : Item) (left : List Item) (after : Finds) → drop i p.items ≡ x ∷ left
    → AreFirst ((xs ++ among sought p (take i p.items)) ++ among sought p (x ∷ [])) after → AreFirst (xs ++ among sought p (take (i + 1) p.items)) after
kept_on sought p xs i x left after e h =
    let more : among sought p (take (i + 1) p.items) ≡ among sought p (take i p.items) ++ among sought p (x ∷ []) = ap (among sought p) (one_more i p.items x left e) ∙ found_more sought p (take i p.items) x in
    subst (λ ys. AreFirst ys after) (append_assoc xs (among sought p (take i p.items)) (among sought p (x ∷ [])) ∙ sym (ap (λ (ys : List Find). xs ++ ys) more)) h

pub kept_whole : (sought : Sought) (p : PartLog) (xs : List Find) (i : ℕ) (finds : Finds) → drop i p.items ≡ [] → AreFirst (xs ++ among sought p (take i p.items)) finds → AreFirst (xs ++ all_in sought p) finds
kept_whole sought p xs i finds e h = subst (λ ys. AreFirst (xs ++ among sought p ys) finds) (all_taken i p.items e) h
  where
    all_taken : (i : ℕ) (ys : List Item) → drop i ys ≡ [] → take i ys ≡ ys
    all_taken zero ys e = sym e
    all_taken (suc i) [] e = refl
    all_taken (suc i) (y ∷ ys) e = ap (λ zs. y ∷ zs) (all_taken i ys e)

pub parts_more : (sought : Sought) (logs : List PartLog) (i : ℕ) (p : PartLog) (after : Finds) → i < length logs → p ≡ get_or logs i p
    → AreFirst (all_of sought (take i logs) ++ all_in sought p) after → AreFirst (all_of sought (take (i + 1) logs)) after
parts_more sought logs i p after lt is h =
    let e : take (i + 1) logs ≡ take i logs ++ p ∷ [] = take_more logs i p lt ∙ ap (λ q. take i logs ++ q ∷ []) (sym is) in
    let more : all_of sought (take (i + 1) logs) ≡ all_of sought (take i logs) ++ all_in sought p = ap (all_of sought) e ∙ (flat_map-append (all_in sought) (take i logs) (p ∷ []) ∙ ap (λ (ys : List Find). all_of sought (take i logs) ++ ys) (append-nil (all_in sought p))) in
    subst (λ ys. AreFirst ys after) (sym more) h
