-- Members of lists that are made of lists, and what a look-up finds.
use Rattle.std.proofs.Common.{◌≡◌, List, [], ◌∷◌, ◌++◌, map, refl, sym, subst, ap, ◌∙◌, inl, inr, ◌⊎◌, true, false, Bool, ◌||◌, if◌then◌else◌, IsPermutation, cond}
use Rattle.std.specs.List.{flat_map, filter}
use Rattle.std.specs.Ordering.{is_eq}
use Rattle.std.specs.Cmp.{IsTotalOrder}
use Rattle.std.specs.declared.cmp.Ordering.{Ordering}
use Rattle.std.specs.declared.cmp.Ordering.TheVariants.{Less, Equal, Greater}
use Rattle.std.proofs.lemmas.Cmp.{tied_itself}
use Rattle.std.proofs.lemmas.List.Sorted.{list_any-IsPermutation}
use Rattle.eos_base.specs.Members.{Has, is_found}
use Rattle.eos_base.specs.steps.Least.{IsExact}

pub append_cases : {X : Type 0} (xs ys : List X) (y : X) → Has (xs ++ ys) y → Has xs y ⊎ Has ys y
append_cases [] ys y h = inr h
append_cases (x ∷ xs) ys y (inl e) = inl (inl e)
append_cases (x ∷ xs) ys y (inr h) = elim (append_cases xs ys y h) [ inl a ↦ inl (inr a) | inr b ↦ inr b ]

pub append_left : {X : Type 0} (xs ys : List X) (y : X) → Has xs y → Has (xs ++ ys) y
append_left [] ys y h = absurd h
append_left (x ∷ xs) ys y (inl e) = inl e
append_left (x ∷ xs) ys y (inr h) = inr (append_left xs ys y h)

pub append_right : {X : Type 0} (xs ys : List X) (y : X) → Has ys y → Has (xs ++ ys) y
append_right [] ys y h = h
append_right (x ∷ xs) ys y h = inr (append_right xs ys y h)

pub flat_has : {X Y : Type 0} (f : X → List Y) (xs : List X) (y : Y) → Has (flat_map f xs) y → (x : X) × Has xs x × Has (f x) y
flat_has f [] y h = absurd h
flat_has f (x ∷ xs) y h = elim (append_cases (f x) (flat_map f xs) y h) [
  | inl a ↦ (x, inl refl, a)
  | inr b ↦ let r = flat_has f xs y b in (r.0, inr r.1, r.2)
]

pub has_flat : {X Y : Type 0} (f : X → List Y) (xs : List X) (x : X) (y : Y) → Has xs x → Has (f x) y → Has (flat_map f xs) y
has_flat f [] x y h k = absurd h
has_flat f (z ∷ xs) x y (inl e) k = append_left (f z) (flat_map f xs) y (subst (λ w. Has (f w) y) (sym e) k)
has_flat f (z ∷ xs) x y (inr h) k = append_right (f z) (flat_map f xs) y (has_flat f xs x y h k)

pub map_has : {X Y : Type 0} (f : X → Y) (xs : List X) (y : Y) → Has (map f xs) y → (x : X) × Has xs x × (f x ≡ y)
map_has f [] y h = absurd h
map_has f (x ∷ xs) y (inl e) = (x, inl refl, e)
map_has f (x ∷ xs) y (inr h) = let r = map_has f xs y h in (r.0, inr r.1, r.2)

pub has_map : {X Y : Type 0} (f : X → Y) (xs : List X) (x : X) → Has xs x → Has (map f xs) (f x)
has_map f [] x h = absurd h
has_map f (z ∷ xs) x (inl e) = inl (ap f e)
has_map f (z ∷ xs) x (inr h) = inr (has_map f xs x h)

-- what stands behind a test
pub if_has : {X : Type 0} (b : Bool) (xs : List X) (x : X) → Has (if b then xs else []) x → (b ≡ true) × Has xs x
if_has true xs x h = (refl, h)
if_has false xs x h = absurd h

pub has_if : {X : Type 0} (b : Bool) (xs : List X) (x : X) → b ≡ true → Has xs x → Has (if b then xs else []) x
has_if true xs x e h = h
has_if false xs x e h = absurd cc

pub only : {X : Type 0} (x y : X) → Has (x ∷ []) y → x ≡ y
only x y (inl e) = e
only x y (inr h) = absurd h

pub has_filter : {X : Type 0} (p : X → Bool) (xs : List X) (x : X) → Has xs x → p x ≡ true → Has (filter p xs) x
has_filter p [] x h e = h
has_filter p (y ∷ ys) x (inl q) e =
    let t : p y ≡ true = subst (λ z. p z ≡ true) (sym q) e in
    rw t (inl q)
has_filter p (y ∷ ys) x (inr h) e = elim (p y) as (λ t. Has (cond t (y ∷ filter p ys) (filter p ys)) x) [ true ↦ inr (has_filter p ys x h e) | false ↦ has_filter p ys x h e ]

pub filter_has : {X : Type 0} (p : X → Bool) (xs : List X) (x : X) → Has (filter p xs) x → Has xs x × (p x ≡ true)
filter_has p [] x h = absurd h
filter_has {X} p (y ∷ ys) x h = elim (p y) as (λ b. p y ≡ b → Has (cond b (y ∷ filter p ys) (filter p ys)) x → Has (y ∷ ys) x × (p x ≡ true)) [
  | true ↦ λ q k. elim k [
    | inl e ↦ (inl e, subst (λ z. p z ≡ true) e q)
    | inr r ↦ let ih = filter_has p ys x r in (inr ih.0, ih.1)
  ]
  | false ↦ λ q k. let ih = filter_has p ys x k in (inr ih.0, ih.1)
] refl h

-- ---- what a look-up finds

pub found_has : {X : Type 0} (cmp : X → X → Ordering) → IsExact cmp → (xs : List X) (k : X) → is_found cmp xs k ≡ true → Has xs k
found_has cmp exact [] k e = absurd cc
found_has {X} cmp exact (x ∷ xs) k e = go (found_has cmp exact xs k) (cmp x k) refl e
  where
    go : (is_found cmp xs k ≡ true → Has xs k) → (o : Ordering) → cmp x k ≡ o → (is_eq o || is_found cmp xs k) ≡ true → Has (x ∷ xs) k
    go more Equal q e = inl (exact x k q)
    go more Less q e = inr (more e)
    go more Greater q e = inr (more e)

or_true : (b : Bool) → (b || true) ≡ true
or_true true = refl
or_true false = refl

pub has_found : {X : Type 0} (cmp : X → X → Ordering) → IsTotalOrder cmp → (xs : List X) (k : X) → Has xs k → is_found cmp xs k ≡ true
has_found cmp o [] k h = absurd h
has_found {X} cmp o (x ∷ xs) k (inl e) =
    let t : cmp x k ≡ Equal = subst (λ z. cmp x z ≡ Equal) e (tied_itself o x) in
    rw t refl
has_found {X} cmp o (x ∷ xs) k (inr h) = let t = has_found cmp o xs k h in rw t (or_true (is_eq (cmp x k)))

-- a list in another order: found there is to be a member here
pub record Finds {X : Type 0} (cmp : X → X → Ordering) (keys xs : List X) : Type 0 where
  pub there : (k : X) → is_found cmp keys k ≡ true → Has xs k
  pub found : (k : X) → Has xs k → is_found cmp keys k ≡ true

pub finds : {X : Type 0} (cmp : X → X → Ordering) → IsTotalOrder cmp → IsExact cmp → (xs keys : List X) → IsPermutation xs keys → Finds cmp keys xs
finds cmp o exact xs keys p = record {
  there = λ k e. found_has cmp exact xs k (list_any-IsPermutation (λ y. is_eq (cmp y k)) xs keys p ∙ e);
  found = λ k h. sym (list_any-IsPermutation (λ y. is_eq (cmp y k)) xs keys p) ∙ has_found cmp o xs k h;
}

-- ---- keys that stand for plain values

or_same : (p q r s : Bool) → p ≡ q → r ≡ s → (p || r) ≡ (q || s)
or_same p q r s e f = rw (e, f) refl

-- a look-up among keys, in the order of what they stand for
pub found_by : {X Y : Type 0} (f : X → Y) (cmp : Y → Y → Ordering) (R : X → X → Ordering) → ((x y : X) → R x y ≡ cmp (f x) (f y)) → (xs : List X) (k : X) → is_found R xs k ≡ is_found cmp (map f xs) (f k)
found_by f cmp R same [] k = refl
found_by f cmp R same (x ∷ xs) k = or_same _ _ _ _ (ap is_eq (same x k)) (found_by f cmp R same xs k)

-- a look-up in an order that says the same
pub found_same : {X : Type 0} (cmp : X → X → Ordering) (R : X → X → Ordering) → ((x y : X) → R x y ≡ cmp x y) → (xs : List X) (k : X) → is_found R xs k ≡ is_found cmp xs k
found_same cmp R same [] k = refl
found_same cmp R same (x ∷ xs) k = or_same _ _ _ _ (ap is_eq (same x k)) (found_same cmp R same xs k)
