-- Keys that are those of the inputs, one input after the other.
use Rattle.std.proofs.Common.{◌≡◌, ◌<◌, ◌≤◌, ◌+◌, ◌-◌, ◌*◌, ◌/◌, ◌%◌, ℕ, zero, suc, List, [], ◌∷◌, ◌++◌, map, Option, Some, None, refl, sym, subst, ap, ◌∙◌, inl, inr, ◌⊎◌, arith}
use Rattle.std.specs.Prelude.{IfSome}
use Rattle.eos_base.specs.Members.{Has}
use Rattle.eos_base.proofs.Membership.{append_cases, append_left, append_right, only, has_map}
use Rattle.eos_lineage.specs.steps.Keys.{key_at, steps, keys_for, Told}

-- ---- the parts of a key

pub same_key : (s t o p n m : ℕ) → o < 1024 → p < 1024 → n < 1024 → m < 1024 → key_at s o n ≡ key_at t p m → (s ≡ t) × (o ≡ p) × (n ≡ m)
same_key s t o p n m a b c d e = (omega arith, omega arith, omega arith)

-- one of so many outputs, or the note that there is none
abbrev pub IsNumber : ℕ → ℕ → Type 0
IsNumber o n = ((o ≡ 0) × (n ≡ 0)) ⊎ ((1 ≤ o) × (o ≤ n))

pub number_small : (o n : ℕ) → IsNumber o n → n < 1024 → o < 1024
number_small o n (inl e) lt = let z = e.0 in omega (arith, z)
number_small o n (inr e) lt = let l = e.1 in omega (arith, l, lt)

-- ---- the keys of one input

steps_has : (f n k : ℕ) → Has (steps f n) k → (j : ℕ) × (j < n) × (k ≡ f + j * 1024)
steps_has f zero k h = absurd h
steps_has f (suc n) k (inl e) = (0, omega arith, omega (arith, e))
steps_has f (suc n) k (inr h) = let r = steps_has (f + 1024) n k h in let lt = r.1 in let e = r.2 in (suc r.0, omega (arith, lt), omega (arith, e))

has_steps : (f n j : ℕ) → j < n → Has (steps f n) (f + j * 1024)
has_steps f zero j lt = absurd (omega (arith, lt))
has_steps f (suc n) zero lt = inl (omega arith)
has_steps f (suc n) (suc j) lt =
    let e : f + 1024 + j * 1024 ≡ f + suc j * 1024 = omega arith in
    inr (subst (Has (steps (f + 1024) n)) e (has_steps (f + 1024) n j (omega (arith, lt))))

pub for_has : (s n k : ℕ) → Has (keys_for s n) k → (o : ℕ) × (k ≡ key_at s o n) × IsNumber o n
for_has s zero k h = (0, sym (only (key_at s 0 0) k h), inl (refl, refl))
for_has s (suc n) k h = let r = steps_has (key_at s 1 (suc n)) (suc n) k h in let lt = r.1 in let e = r.2 in (suc r.0, omega (arith, e), inr (omega arith, omega (arith, lt)))

pub has_for : (s n o : ℕ) → IsNumber o n → Has (keys_for s n) (key_at s o n)
has_for s zero o (inl e) = let z = e.0 in inl (omega (arith, z))
has_for s zero o (inr e) = let a = e.0 in let b = e.1 in absurd (omega (arith, a, b))
has_for s (suc n) o (inl e) = let z = e.1 in absurd (omega (arith, z))
has_for s (suc n) zero (inr e) = let a = e.0 in absurd (omega (arith, a))
has_for s (suc n) (suc j) (inr e) =
    let l = e.1 in
    let k : key_at s 1 (suc n) + j * 1024 ≡ key_at s (suc j) (suc n) = omega arith in
    subst (Has (keys_for s (suc n))) k (has_steps (key_at s 1 (suc n)) (suc n) j (omega (arith, l)))

-- one step back
pub step_back : (before rest after : List ℕ) (last key count step : ℕ) → step < count → before ≡ key ∷ rest → key ≡ last + 1024 → rest ≡ steps (key + 1024) (count - (step + 1)) ++ after
    → before ≡ steps (last + 1024) (count - step) ++ after
step_back before rest after last key count step lt is next all =
    let n : suc (count - (step + 1)) ≡ count - step = omega (arith, lt) in
    subst (λ m. before ≡ steps (last + 1024) m ++ after) n
    (is ∙ (ap (λ (zs : List ℕ). key ∷ zs) all ∙ ap (λ k. k ∷ (steps (k + 1024) (count - (step + 1)) ++ after)) next))

-- the keys of the input with this spot
abbrev pub OfInput : ℕ → List ℕ → List ℕ → Type 0
OfInput s keys rest = (n : ℕ) × (n < 1024) × (keys ≡ keys_for s n ++ rest)

pub with_outputs : (s first of : ℕ) (keys more rest : List ℕ) → first / 1024 / 1024 ≡ s → first / 1024 % 1024 ≡ 1 → first % 1024 ≡ of → 0 < of → keys ≡ first ∷ more
    → more ≡ steps (first + 1024) (of - 1) ++ rest → OfInput s keys rest
with_outputs s first zero keys more rest spot output of some is all = absurd (omega (arith, some))
with_outputs s first (suc n) keys more rest spot output of some is all =
    let e : first ≡ key_at s 1 (suc n) = omega (arith, spot, output, of) in
    let m : suc n - 1 ≡ n = omega arith in
    let few : suc n < 1024 = omega (arith, of) in
    (suc n, few, is ∙ (ap (λ (zs : List ℕ). first ∷ zs) (all ∙ ap (λ k. steps (first + 1024) k ++ rest) m) ∙ ap (λ k. k ∷ (steps (k + 1024) n ++ rest)) e))

-- ---- the keys of all

pub told_has : (ks ss : List ℕ) → Told ks ss → (k : ℕ) → Has ks k → (s : ℕ) × Has ss s × (n : ℕ) × (n < 1024) × (o : ℕ) × (k ≡ key_at s o n) × IsNumber o n
told_has ks [] t k h = absurd (subst (λ zs. Has zs k) t h)
told_has ks (s ∷ ss) t k h = elim (append_cases (keys_for s t.0) t.2 k (subst (λ zs. Has zs k) t.3 h)) [
  | inl a ↦ let r = for_has s t.0 k a in (s, inl refl, t.0, t.1, r.0, r.1, r.2)
  | inr b ↦ let r = told_has t.2 ss t.4 k b in (r.0, inr r.1, r.2, r.3, r.4, r.5, r.6)
]

-- no member stands twice
abbrev pub Apart : List ℕ → Type 0
Apart [] = Unit {0}
Apart (x ∷ xs) = (Has xs x → ⊥) × Apart xs

-- the keys of an input are those of its count of outputs
pub record Own (ks : List ℕ) (s : ℕ) : Type 0 where
  pub count : ℕ
  pub small : count < 1024
  pub there : (o : ℕ) → IsNumber o count → Has ks (key_at s o count)
  pub within : (o m : ℕ) → o < 1024 → m < 1024 → Has ks (key_at s o m) → IsNumber o count × (m ≡ count)

first_own : (ks : List ℕ) (s : ℕ) (ss : List ℕ) → Told ks (s ∷ ss) → (Has ss s → ⊥) → Own ks s
first_own ks s ss t apart = record {
  count = t.0;
  small = t.1;
  there = λ o i. subst (λ zs. Has zs (key_at s o t.0)) (sym t.3) (append_left (keys_for s t.0) t.2 (key_at s o t.0) (has_for s t.0 o i));
  within = λ o m lo lm h. elim (append_cases (keys_for s t.0) t.2 (key_at s o m) (subst (λ zs. Has zs (key_at s o m)) t.3 h)) [
    | inl a ↦
        let r = for_has s t.0 (key_at s o m) a in
        let e = same_key s s o r.0 m t.0 lo (number_small r.0 t.0 r.2 t.1) lm t.1 r.1 in
        (subst (λ z. IsNumber z t.0) (sym e.1) r.2, e.2)
    | inr b ↦
        let r = told_has t.2 ss t.4 (key_at s o m) b in
        let e = same_key s r.0 o r.4 m r.2 lo (number_small r.4 r.2 r.6 r.3) lm r.3 r.5 in
        absurd (apart (subst (Has ss) (sym e.0) r.1))
  ];
}

later_own : (ks : List ℕ) (u : ℕ) (ss : List ℕ) (t : Told ks (u ∷ ss)) → (Has ss u → ⊥) → (s : ℕ) → Has ss s → Own t.2 s → Own ks s
later_own ks u ss t apart s has own = record {
  count = own.count;
  small = own.small;
  there = λ o i. subst (λ zs. Has zs (key_at s o own.count)) (sym t.3) (append_right (keys_for u t.0) t.2 (key_at s o own.count) (own.there o i));
  within = λ o m lo lm h. elim (append_cases (keys_for u t.0) t.2 (key_at s o m) (subst (λ zs. Has zs (key_at s o m)) t.3 h)) [
    | inl a ↦
        let r = for_has u t.0 (key_at s o m) a in
        let e = same_key s u o r.0 m t.0 lo (number_small r.0 t.0 r.2 t.1) lm t.1 r.1 in
        absurd (apart (subst (Has ss) e.0 has))
    | inr b ↦ own.within o m lo lm b
  ];
}

pub own : (ks ss : List ℕ) → Told ks ss → Apart ss → (s : ℕ) → Has ss s → Own ks s
own ks [] t apart s h = absurd h
own ks (u ∷ ss) t apart s (inl e) = subst (Own ks) e (first_own ks u ss t apart.0)
own ks (u ∷ ss) t apart s (inr h) = later_own ks u ss t apart.0 s h (own t.2 ss t.4 apart.1 s h)

-- ---- no key stands twice

steps_apart : (f n : ℕ) → Apart (steps f n)
steps_apart f zero = tt
steps_apart f (suc n) = (λ h. let r = steps_has (f + 1024) n f h in let e = r.2 in absurd (omega (arith, e)), steps_apart (f + 1024) n)

for_apart : (s n : ℕ) → Apart (keys_for s n)
for_apart s zero = (λ h. h, tt)
for_apart s (suc n) = steps_apart (key_at s 1 (suc n)) (suc n)

append_apart : (xs ys : List ℕ) → Apart xs → Apart ys → ((x : ℕ) → Has xs x → Has ys x → ⊥) → Apart (xs ++ ys)
append_apart [] ys a b nope = b
append_apart (x ∷ xs) ys a b nope = (
  λ h. elim (append_cases xs ys x h) [ inl p ↦ a.0 p | inr q ↦ nope x (inl refl) q ],
  append_apart xs ys a.1 b (λ z p q. nope z (inr p) q),
)

pub told_apart : (ks ss : List ℕ) → Told ks ss → Apart ss → Apart ks
told_apart ks [] t apart = subst Apart (sym t) tt
told_apart ks (s ∷ ss) t apart = subst Apart (sym t.3) (append_apart (keys_for s t.0) t.2 (for_apart s t.0) (told_apart t.2 ss t.4 apart.1) meet)
  where
    meet : (k : ℕ) → Has (keys_for s t.0) k → Has t.2 k → ⊥
    meet k h g =
        let q = for_has s t.0 k h in
        let r = told_has t.2 ss t.4 k g in
        let e = same_key s r.0 q.0 r.4 t.0 r.2 (number_small q.0 t.0 q.2 t.1) (number_small r.4 r.2 r.6 r.3) t.1 r.3 (sym q.1 ∙ r.5) in
        apart.0 (subst (Has ss) (sym e.0) r.1)

-- members whose keys are one are one
pub same_member : {X : Type 0} (f : X → ℕ) (xs : List X) → Apart (map f xs) → (x y : X) → Has xs x → Has xs y → f x ≡ f y → x ≡ y
same_member f [] apart x y h k e = absurd h
same_member f (z ∷ xs) apart x y (inl p) (inl q) e = sym p ∙ q
same_member f (z ∷ xs) apart x y (inl p) (inr k) e = absurd (apart.0 (subst (Has (map f xs)) (sym e ∙ ap f (sym p)) (has_map f xs y k)))
same_member f (z ∷ xs) apart x y (inr h) (inl q) e = absurd (apart.0 (subst (Has (map f xs)) (e ∙ ap f (sym q)) (has_map f xs x h)))
same_member f (z ∷ xs) apart x y (inr h) (inr k) e = same_member f xs apart.1 x y h k e

pub on_some : {A : Type 0} (o : Option A) (P Q : A → Type 0) → ((x : A) → P x → Q x) → IfSome o P → IfSome o Q
on_some None P Q f p = tt
on_some (Some x) P Q f p = f x p
