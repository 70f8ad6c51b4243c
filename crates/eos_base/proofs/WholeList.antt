-- The list of all that stands: its first is the least, and none stands where it is empty. How such a list is made.
use Rattle.std.proofs.Common.{◌≡◌, List, [], ◌∷◌, map, refl, sym, subst, ◌∙◌, inl, inr, true, false}
use Rattle.std.specs.List.{AllByRecursion}
use Rattle.std.specs.List.Sorted.{IsStrictlySortedBy}
use Rattle.std.specs.Ordering.{is_eq, is_gt}
use Rattle.std.specs.Cmp.{IsTotalOrder}
use Rattle.std.specs.declared.cmp.Ordering.{Ordering}
use Rattle.std.specs.declared.cmp.Ordering.TheVariants.{Less, Equal}
use Rattle.eos_base.specs.Members.{Has}
use Rattle.eos_base.specs.Least.{UpTo, NoneStands, IsLeast}
use Rattle.eos_base.proofs.Exact.{is_tied}
use Rattle.eos_base.proofs.LeastOf.{upto_same}
use Rattle.eos_base.proofs.Membership.{map_has, has_map}
use Rattle.eos_base.specs.AllOf.{IsAllOf}

all_at : {X : Type 0} (P : X → Type 0) (xs : List X) → AllByRecursion P xs → (y : X) → Has xs y → P y
all_at P [] h y k = absurd k
all_at P (x ∷ xs) h y (inl e) = subst P e h.0
all_at P (x ∷ xs) h y (inr k) = all_at P xs h.1 y k

-- the first is less than each further one
pub first_less : {X : Type 0} (cmp : X → X → Ordering) (x : X) (xs : List X) → IsStrictlySortedBy cmp (x ∷ xs) → (y : X) → Has xs y → cmp x y ≡ Less
unfolding IsStrictlySortedBy
first_less cmp x xs up y h = all_at (λ z. cmp x z ≡ Less) xs up.0 y h

pub less_upto : (o : Ordering) → o ≡ Less → is_gt o ≡ false
less_upto o e = subst (λ z. is_gt z ≡ false) (sym e) refl

pub first_least : {X : Type 0} {cmp : X → X → Ordering} → IsTotalOrder cmp → (Stands : X → Type 0) (x : X) (xs : List X) → IsAllOf cmp Stands (x ∷ xs) → IsLeast cmp Stands x
first_least {X} {cmp} o Stands x xs all = record { stands = (all.members x).0 (inl refl); least = λ y st. below y ((all.members y).1 st) }
  where
    below : (y : X) → Has (x ∷ xs) y → UpTo cmp x y
    below y (inl e) = upto_same o x y e
    below y (inr h) = less_upto (cmp x y) (first_less cmp x xs all.rises y h)

pub none_listed : {X : Type 0} (cmp : X → X → Ordering) (Stands : X → Type 0) → IsAllOf cmp Stands [] → NoneStands Stands
none_listed cmp Stands all = λ x st. (all.members x).1 st

-- two lists that rise and have the same members are one
pub same_list : {X : Type 0} (cmp : X → X → Ordering) → ((x y : X) → cmp x y ≡ Less → cmp y x ≡ Less → ⊥) → (xs ys : List X) → IsStrictlySortedBy cmp xs → IsStrictlySortedBy cmp ys
    → ((x : X) → Has xs x → Has ys x) → ((x : X) → Has ys x → Has xs x) → xs ≡ ys
unfolding IsStrictlySortedBy
same_list cmp apart [] [] up rise there back = refl
same_list cmp apart [] (y ∷ ys) up rise there back = absurd (back y (inl refl))
same_list cmp apart (x ∷ xs) [] up rise there back = absurd (there x (inl refl))
same_list {X} cmp apart (x ∷ xs) (y ∷ ys) up rise there back = joined (same_list cmp apart xs ys up.1 rise.1)
  where
    after_x : (z : X) → Has xs z → cmp x z ≡ Less
    after_x z h = all_at (λ w. cmp x w ≡ Less) xs up.0 z h

    after_y : (z : X) → Has ys z → cmp y z ≡ Less
    after_y z h = all_at (λ w. cmp y w ≡ Less) ys rise.0 z h

    first : Has (y ∷ ys) x → Has (x ∷ xs) y → x ≡ y
    first (inl e) k = sym e
    first (inr h) (inl e) = e
    first (inr h) (inr k) = absurd (apart x y (after_x y k) (after_y x h))

    heads : x ≡ y
    heads = first (there x (inl refl)) (back y (inl refl))

    past_y : (z : X) → Has xs z → Has (y ∷ ys) z → Has ys z
    past_y z h (inl e) = let low = after_x z h in let itself = subst (λ w. cmp x w ≡ Less) (sym (heads ∙ e)) low in absurd (apart x x itself itself)
    past_y z h (inr k) = k

    past_x : (z : X) → Has ys z → Has (x ∷ xs) z → Has xs z
    past_x z h (inl e) = let low = after_y z h in let itself = subst (λ w. cmp y w ≡ Less) (sym (sym heads ∙ e)) low in absurd (apart y y itself itself)
    past_x z h (inr k) = k

    joined : (((z : X) → Has xs z → Has ys z) → ((z : X) → Has ys z → Has xs z) → xs ≡ ys) → (x ∷ xs) ≡ (y ∷ ys)
    joined more = let tails = more (λ z h. past_y z h (there z (inr h))) (λ z h. past_x z h (back z (inr h))) in λ i. heads i ∷ tails i

-- ---- made of keys in order

all_plain : {K X : Type 0} (f : K → X) (cmp : X → X → Ordering) (x : K) (ys : List K) → AllByRecursion (λ y. cmp (f x) (f y) ≡ Less) ys → AllByRecursion (λ m. cmp (f x) m ≡ Less) (map f ys)
all_plain f cmp x [] h = h
all_plain f cmp x (y ∷ ys) h = (h.0, all_plain f cmp x ys h.1)

pub plain_rises : {K X : Type 0} (f : K → X) (cmp : X → X → Ordering) (xs : List K) → IsStrictlySortedBy (λ x y. cmp (f x) (f y)) xs → IsStrictlySortedBy cmp (map f xs)
unfolding IsStrictlySortedBy
plain_rises f cmp [] h = h
plain_rises f cmp (x ∷ xs) h = (all_plain f cmp x xs h.0, plain_rises f cmp xs h.1)

-- Keys that stand for what was found, in order and each once, give the list, where what was found is what stands; of what stands,
-- tied ones have to be equal.
pub all_by_keys : {K X : Type 0} (f : K → X) (cmp : X → X → Ordering) (Stands : X → Type 0) → ((x y : X) → Stands x → Stands y → cmp x y ≡ Equal → x ≡ y) → (found kept : List K)
    → IsStrictlySortedBy (λ x y. cmp (f x) (f y)) kept → ((x : K) → Has kept x → Has found x)
    → ((x : K) → Has found x → (y : K) × Has kept y × (is_eq (cmp (f x) (f y)) ≡ true))
    → ((x : X) → Has (map f found) x → Stands x) → ((x : X) → Stands x → Has (map f found) x) → IsAllOf cmp Stands (map f kept)
all_by_keys {K} {X} f cmp Stands one found kept up each all sound whole = record { rises = plain_rises f cmp kept up; members = λ x. (there x, back x) }
  where
    there : (x : X) → Has (map f kept) x → Stands x
    there x h =
        let r = map_has f kept x h in
        sound x (subst (Has (map f found)) r.2 (has_map f found r.0 (each r.0 r.1)))

    back : (x : X) → Stands x → Has (map f kept) x
    back x st =
        let r = map_has f found x (whole x st) in
        let k = all r.0 r.1 in
        let stands = sound (f r.0) (has_map f found r.0 r.1) in
        let kept_stands = sound (f k.0) (has_map f found k.0 (each k.0 k.1)) in
        let same : f k.0 ≡ x = sym (one (f r.0) (f k.0) stands kept_stands (is_tied (cmp (f r.0) (f k.0)) k.2)) ∙ r.2 in
        subst (Has (map f kept)) same (has_map f kept k.0 k.1)

-- What was found, in order and each once, gives the list, where what was found is what stands.
pub all_by_order : {X : Type 0} (cmp : X → X → Ordering) (Stands : X → Type 0) → ((x y : X) → Stands x → Stands y → cmp x y ≡ Equal → x ≡ y) → (found kept : List X)
    → IsStrictlySortedBy cmp kept → ((x : X) → Has kept x → Has found x) → ((x : X) → Has found x → (y : X) × Has kept y × (is_eq (cmp x y) ≡ true))
    → ((x : X) → Has found x → Stands x) → ((x : X) → Stands x → Has found x) → IsAllOf cmp Stands kept
all_by_order {X} cmp Stands one found kept up each all sound whole = record { rises = up; members = λ x. (λ h. sound x (each x h), back x) }
  where
    back : (x : X) → Stands x → Has kept x
    back x st =
        let h = whole x st in
        let k = all x h in
        let same : k.0 ≡ x = sym (one x k.0 st (sound k.0 (each k.0 k.1)) (is_tied (cmp x k.0) k.2)) in
        subst (Has kept) same k.1
