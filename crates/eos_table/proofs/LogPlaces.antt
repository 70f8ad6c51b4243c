-- In a log in order, the unskipped records of one place are one.
use Rattle.std.proofs.Common.{◌≡◌, ◌<◌, ◌<ℤ◌, ℕ, suc, ℤ, List, [], ◌∷◌, length, refl, sym, subst, ◌∙◌, inl, inr, ◌⊎◌, true, false, Bool, if◌then◌else◌, arith}
use Rattle.std.proofs.lemmas.Int.{ints}
use Rattle.std.specs.Prelude.{slice_index_or}
use Rattle.std.specs.List.{AllPairs}
use Rattle.eos_base.specs.Members.{Has}
use Rattle.eos_base.proofs.Membership.{append_cases, flat_has, only}
use Rattle.eos_txnlog.specs.Skips.{is_skipped}
use Rattle.eos_fold.specs.declared.item.Item.{Item}
use Rattle.eos_fold.specs.Parts.{PartLog, Rises}
use Rattle.eos_table.specs.declared.content.Content.{Content}
use Rattle.eos_table.specs.declared.content.Content.TheVariants.{Unreadable, Other, Of}
use Rattle.eos_table.specs.TransactionLog.{content_of, State, nothing, flat, Unskipped, step_at, next_state, steps_after, steps_of, all_steps, AreInOrder}

-- ---- pairs by membership

has_index : {X : Type 0} (xs : List X) (y : X) → Has xs y → (j : ℕ) × (j < length xs) × ((d : X) → slice_index_or xs j d ≡ y)
has_index [] y h = absurd h
has_index (x ∷ xs) y (inl e) = (0, omega arith, λ d. e)
has_index (x ∷ xs) y (inr h) = let r = has_index xs y h in let lt = r.1 in (suc r.0, omega (arith, lt), r.2)

pub pairs_head : {X : Type 0} (R : X → X → Type 0) (x : X) (xs : List X) → AllPairs R (x ∷ xs) → (y : X) → Has xs y → R x y
pairs_head R x xs up y h = let r = has_index xs y h in let lt = r.1 in subst (R x) (r.2 x) (up 0 (suc r.0) x (omega arith) (omega (arith, lt)))

pub pairs_tail : {X : Type 0} (R : X → X → Type 0) (x : X) (xs : List X) → AllPairs R (x ∷ xs) → AllPairs R xs
pairs_tail R x xs up = λ i j d lt le. up (suc i) (suc j) d (omega arith) (omega arith)

pub pairs_of : {X : Type 0} (R : X → X → Type 0) (xs : List X) → AllPairs R xs → (x y : X) → Has xs x → Has xs y → (x ≡ y) ⊎ (R x y ⊎ R y x)
pairs_of R [] up x y h k = absurd h
pairs_of R (z ∷ zs) up x y (inl e) (inl f) = inl (sym e ∙ f)
pairs_of R (z ∷ zs) up x y (inl e) (inr k) = inr (inl (subst (λ w. R w y) e (pairs_head R z zs up y k)))
pairs_of R (z ∷ zs) up x y (inr h) (inl f) = inr (inr (subst (λ w. R w x) f (pairs_head R z zs up x h)))
pairs_of R (z ∷ zs) up x y (inr h) (inr k) = pairs_of R zs (pairs_tail R z zs up) x y h k

-- ---- the unskipped records of a partition

pub record IsAt (n : ℤ) (o : ℕ) (c : Content) (s : Unskipped) : Type 0 where
  pub partition : s.partition ≡ n
  pub offset : s.offset ≡ o
  pub content : c ≡ Of s.id s.value

-- a record makes at most one, at its place
pub at_step : (last : State) (n : ℤ) (o : ℕ) (c : Content) (s : Unskipped) → Has (step_at last n o c) s → IsAt n o c s × ((t : Unskipped) → Has (step_at last n o c) t → s ≡ t)
at_step last n o (Unreadable e) s h = absurd h
at_step last n o Other s h = absurd h
at_step last n o (Of id v) s h = go (is_skipped (last id) v) h
  where
    this : Unskipped
    this = record { partition = n; offset = o; id = id; before = flat (last id); value = v }

    go : (b : Bool) → Has (if b then [] else this ∷ []) s → IsAt n o (Of id v) s × ((t : Unskipped) → Has (if b then [] else this ∷ []) t → s ≡ t)
    go true h = absurd h
    go false h = let e = only this s h in (subst (IsAt n o (Of id v)) e (record { partition = refl; offset = refl; content = refl }), λ t k. sym e ∙ only this t k)

pub from_item : (last : State) (n : ℤ) (xs : List Item) (s : Unskipped) → Has (steps_after last n xs) s → (x : Item) × Has xs x × IsAt n x.offset (content_of x) s
from_item last n [] s h = absurd h
from_item last n (x ∷ xs) s h = elim (append_cases (step_at last n x.offset (content_of x)) (steps_after (next_state last (content_of x)) n xs) s h) [
  | inl a ↦ (x, inl refl, (at_step last n x.offset (content_of x) s a).0)
  | inr b ↦ let r = from_item (next_state last (content_of x)) n xs s b in (r.0, inr r.1, r.2)
]

one_each : (last : State) (n : ℤ) (xs : List Item) → Rises xs → (s t : Unskipped) → Has (steps_after last n xs) s → Has (steps_after last n xs) t → s.offset ≡ t.offset → s ≡ t
one_each last n [] up s t h k e = absurd h
one_each last n (x ∷ xs) up s t h k e = go (append_cases here rest s h) (append_cases here rest t k)
    (one_each (next_state last (content_of x)) n xs (pairs_tail (λ x y. x.offset < y.offset) x xs up) s t)
  where
    here : List Unskipped
    here = step_at last n x.offset (content_of x)

    rest : List Unskipped
    rest = steps_after (next_state last (content_of x)) n xs

    apart : (a b : Unskipped) → Has here a → Has rest b → a.offset ≡ b.offset → ⊥
    apart a b h k e =
        let p = (at_step last n x.offset (content_of x) a h).0 in
        let r = from_item (next_state last (content_of x)) n xs b k in
        let lt = pairs_head (λ (x y : Item). x.offset < y.offset) x xs up r.0 r.1 in
        let q = p.offset in
        let w = r.2.offset in
        absurd (omega (arith, lt, q, w, e))

    go : Has here s ⊎ Has rest s → Has here t ⊎ Has rest t → (Has rest s → Has rest t → s.offset ≡ t.offset → s ≡ t) → s ≡ t
    go (inl a) (inl b) more = (at_step last n x.offset (content_of x) s a).1 t b
    go (inl a) (inr b) more = absurd (apart s t a b e)
    go (inr a) (inl b) more = absurd (apart t s b a (sym e))
    go (inr a) (inr b) more = more a b e

-- two of one partition and offset are one
pub one_place : (log : List PartLog) → AreInOrder log → (s t : Unskipped) → Has (all_steps log) s → Has (all_steps log) t → s.partition ≡ t.partition → s.offset ≡ t.offset → s ≡ t
one_place log are s t h k e o =
    let p = flat_has steps_of log s h in
    let q = flat_has steps_of log t k in
    let a = from_item nothing p.0.number p.0.items s p.2 in
    let b = from_item nothing q.0.number q.0.items t q.2 in
    let same : p.0.number ≡ q.0.number = sym a.2.partition ∙ (e ∙ b.2.partition) in
    let part : p.0 ≡ q.0 = elim (pairs_of (λ (p q : PartLog). p.number <ℤ q.number) log are.numbers p.0 q.0 p.1 q.1) [
      | inl is ↦ is
      | inr (inl lt) ↦ absurd (omega (arith, ints, lt, same))
      | inr (inr lt) ↦ absurd (omega (arith, ints, lt, same))
    ] in
    one_each nothing p.0.number p.0.items (are.offsets p.0 p.1) s t p.2 (subst (λ z. Has (steps_of z) t) (sym part) q.2) o
