-- In a log in order, an unskipped record that stands earlier in the list of them lies before the later ones.
use Rattle.std.proofs.Common.{◌<◌, ◌<ℤ◌, ℕ, ℤ, List, [], ◌∷◌, ◌++◌, refl, sym, subst, ◌∙◌, inl, inr, true, false, Bool, if◌then◌else◌, append_assoc, arith}
use Rattle.std.specs.Prelude.{⊤}
use Rattle.std.proofs.lemmas.Int.{ints}
use Rattle.eos_base.specs.Members.{Has}
use Rattle.eos_base.proofs.Membership.{append_cases, append_left, append_right, flat_has}
use Rattle.eos_txnlog.specs.Skips.{is_skipped}
use Rattle.eos_fold.specs.declared.item.Item.{Item}
use Rattle.eos_fold.specs.Parts.{PartLog, Rises}
use Rattle.eos_table.specs.declared.content.Content.{Content}
use Rattle.eos_table.specs.declared.content.Content.TheVariants.{Unreadable, Other, Of}
use Rattle.eos_table.specs.TransactionLog.{State, nothing, flat, Unskipped, content_of, step_at, next_state, steps_after, steps_of, all_steps, AreInOrder}
use Rattle.eos_table.specs.LogFaults.{IsBefore}
use Rattle.eos_table.proofs.LogPlaces.{pairs_head, pairs_tail, at_step, from_item}

-- each stands in this relation to all later ones
abbrev pub Ordered : {X : Type 0} → (X → X → Type 0) → List X → Type 0
Ordered R [] = ⊤
Ordered {X} R (x ∷ xs) = ((y : X) → Has xs y → R x y) × Ordered R xs

ordered_append : {X : Type 0} (R : X → X → Type 0) (xs ys : List X) → Ordered R xs → Ordered R ys → ((x y : X) → Has xs x → Has ys y → R x y) → Ordered R (xs ++ ys)
ordered_append R [] ys p q cross = q
ordered_append R (x ∷ xs) ys p q cross = (
  λ y h. elim (append_cases xs ys y h) [ inl a ↦ p.0 y a | inr b ↦ cross x y (inl refl) b ],
  ordered_append R xs ys p.1 q (λ a b h k. cross a b (inr h) k),
)

-- what stands earlier, and what stands later
pub ordered_left : {X : Type 0} (R : X → X → Type 0) (xs ys : List X) → Ordered R (xs ++ ys) → Ordered R xs
ordered_left R [] ys p = tt
ordered_left R (x ∷ xs) ys p = (λ y h. p.0 y (append_left xs ys y h), ordered_left R xs ys p.1)

pub ordered_across : {X : Type 0} (R : X → X → Type 0) (xs ys : List X) → Ordered R (xs ++ ys) → (x y : X) → Has xs x → Has ys y → R x y
ordered_across R [] ys p x y h k = absurd h
ordered_across R (z ∷ xs) ys p x y (inl e) k = subst (λ w. R w y) e (p.0 y (append_right xs ys y k))
ordered_across R (z ∷ xs) ys p x y (inr h) k = ordered_across R xs ys p.1 x y h k

single : {X : Type 0} (R : X → X → Type 0) (b : Bool) (x : X) → Ordered R (if b then [] else x ∷ [])
single R true x = tt
single R false x = (λ y h. absurd h, tt)

-- a record makes at most one
step_ordered : (last : State) (n : ℤ) (o : ℕ) (c : Content) → Ordered IsBefore (step_at last n o c)
step_ordered last n o (Unreadable e) = tt
step_ordered last n o Other = tt
step_ordered last n o (Of id v) = single IsBefore (is_skipped (last id) v) (record { partition = n; offset = o; id = id; before = flat (last id); value = v })

steps_ordered : (last : State) (n : ℤ) (xs : List Item) → Rises xs → Ordered IsBefore (steps_after last n xs)
steps_ordered last n [] up = tt
steps_ordered last n (x ∷ xs) up =
    ordered_append IsBefore here rest (step_ordered last n x.offset (content_of x)) (steps_ordered (next_state last (content_of x)) n xs (pairs_tail (λ x y. x.offset < y.offset) x xs up)) cross
  where
    here : List Unskipped
    here = step_at last n x.offset (content_of x)

    rest : List Unskipped
    rest = steps_after (next_state last (content_of x)) n xs

    cross : (s t : Unskipped) → Has here s → Has rest t → IsBefore s t
    cross s t h k =
        let p = (at_step last n x.offset (content_of x) s h).0 in
        let r = from_item (next_state last (content_of x)) n xs t k in
        let lt = pairs_head (λ (x y : Item). x.offset < y.offset) x xs up r.0 r.1 in
        let a = p.offset in
        let b = r.2.offset in
        inr (p.partition ∙ sym r.2.partition, omega (arith, lt, a, b))

abbrev Lesser : PartLog → PartLog → Type 0
Lesser p q = p.number <ℤ q.number

pub all_ordered : (log : List PartLog) → AreInOrder log → Ordered IsBefore (all_steps log)
all_ordered [] are = tt
all_ordered (p ∷ ps) are = ordered_append IsBefore (steps_of p) (all_steps ps) (steps_ordered nothing p.number p.items (are.offsets p (inl refl)))
    (all_ordered ps (record { numbers = pairs_tail Lesser p ps are.numbers; offsets = λ q h. are.offsets q (inr h) })) cross
  where
    cross : (s t : Unskipped) → Has (steps_of p) s → Has (all_steps ps) t → IsBefore s t
    cross s t h k =
        let a = from_item nothing p.number p.items s h in
        let q = flat_has steps_of ps t k in
        let b = from_item nothing q.0.number q.0.items t q.2 in
        let lt = pairs_head Lesser p ps are.numbers q.0 q.1 in
        let e = a.2.partition in
        let f = b.2.partition in
        inl (omega (arith, ints, lt, e, f))

-- ---- the order of places

pub before_asym : (s t : Unskipped) → IsBefore s t → IsBefore t s → ⊥
before_asym s t (inl a) (inl b) = absurd (omega (arith, ints, a, b))
before_asym s t (inl a) (inr b) = let e = b.0 in absurd (omega (arith, ints, a, e))
before_asym s t (inr a) (inl b) = let e = a.0 in absurd (omega (arith, ints, b, e))
before_asym s t (inr a) (inr b) = let e = a.1 in let f = b.1 in absurd (omega (arith, e, f))

-- of two, the one before the other stands earlier
pub stands_earlier : (front back : List Unskipped) (t s : Unskipped) → Ordered IsBefore (front ++ t ∷ back) → Has (front ++ t ∷ back) s → IsBefore s t → Has front s
stands_earlier front back t s up h b = elim (append_cases front (t ∷ back) s h) [
  | inl a ↦ a
  | inr (inl e) ↦ absurd (before_asym s t b (subst (λ z. IsBefore z s) (sym e) (subst (λ z. IsBefore s z) e b)))
  | inr (inr k) ↦ absurd (before_asym s t b (ordered_across IsBefore (front ++ t ∷ []) back (subst (Ordered IsBefore) (sym (append_assoc front (t ∷ []) back)) up) t s (append_right front (t ∷ []) t (inl refl)) k))
]
