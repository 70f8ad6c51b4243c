-- The faults that a joined list settles.
use Rattle.std.proofs.Common.{◌≡◌, ℕ, ◌<◌, ◌≤◌, ◌⊎◌, inl, inr, Bool, true, false, cond, List, [], ◌∷◌, ◌++◌, Option, Some, None, refl, sym, subst, ◌∙◌, arith, ℤ}
use Rattle.std.specs.Prelude.{nat_lt, nat_le}
use Rattle.std.specs.Option.{option_or}
use borrow.Author.Tests.{ltb-true, ltb-false, leb-true, leb-false}
use Rattle.eos_touch.specs.declared.touch.Touch.{Touch}
use Rattle.eos_touch.specs.declared.pair.PairFault.{PairFault}
use Rattle.eos_touch.specs.Pair.{number_of}
use Rattle.eos_batch.specs.declared.batch.Batch.{Batch}
use Rattle.eos_fold.specs.declared.fault.Fault.{Fault}
use Rattle.eos_fold.specs.Ends.{placed, first_placed, last_placed}
use Rattle.eos_fold.specs.Faults.{StandsAt, StandsAfter, IsSettled, IsLeastOf}
use Rattle.eos_fold.specs.Earlier.{earlier_of, earlier}

or-assoc : {X : Type 0} (a b c : Option X) → option_or (option_or a b) c ≡ option_or a (option_or b c)
or-assoc None b c = refl
or-assoc (Some x) b c = refl

or-none : {X : Type 0} (a : Option X) → option_or a None ≡ a
or-none None = refl
or-none (Some x) = refl

module _ (s : Bool) (id : ℤ) (o : ℕ) (k : PairFault) where
  after_both : (before : Option (ℕ × Touch)) (xs ys : List Batch) → StandsAfter s id before (xs ++ ys) o k → StandsAfter s id before xs o k ⊎ StandsAfter s id (option_or (last_placed id xs) before) ys o k
  after_both before [] ys h = inr h
  after_both before (x ∷ xs) ys (inl h) = inl (inl h)
  after_both before (x ∷ xs) ys (inr h) =
      elim (after_both (option_or (placed id x) before) xs ys h) [
        | inl a ↦ inl (inr a)
        | inr b ↦ inr (subst (λ (p : Option (ℕ × Touch)). StandsAfter s id p ys o k) (sym (or-assoc (last_placed id xs) (placed id x) before)) b)
      ]

  after_first : (before : Option (ℕ × Touch)) (xs ys : List Batch) → StandsAfter s id before xs o k → StandsAfter s id before (xs ++ ys) o k
  after_first before [] ys h = absurd h
  after_first before (x ∷ xs) ys (inl h) = inl h
  after_first before (x ∷ xs) ys (inr h) = inr (after_first (option_or (placed id x) before) xs ys h)

  after_second : (before : Option (ℕ × Touch)) (xs ys : List Batch) → StandsAfter s id (option_or (last_placed id xs) before) ys o k → StandsAfter s id before (xs ++ ys) o k
  after_second before [] ys h = h
  after_second before (x ∷ xs) ys h = inr (after_second (option_or (placed id x) before) xs ys (subst (λ (p : Option (ℕ × Touch)). StandsAfter s id p ys o k) (or-assoc (last_placed id xs) (placed id x) before) h))

  pub no_next : (p : Option (ℕ × Touch)) → StandsAt s p None o k → ⊥
  no_next None h = h
  no_next (Some p) h = h

  split_step : (p t : Option (ℕ × Touch)) (ys : List Batch) → (StandsAfter s id p ys o k → StandsAt s p (first_placed id ys) o k ⊎ StandsAfter s id None ys o k)
      → StandsAt s p t o k ⊎ StandsAfter s id (option_or t p) ys o k → StandsAt s p (option_or t (first_placed id ys)) o k ⊎ (StandsAt s None t o k ⊎ StandsAfter s id (option_or t None) ys o k)
  split_step p None ys ih (inl h) = absurd (no_next p h)
  split_step p None ys ih (inr h) = elim (ih h) [ inl a ↦ inl a | inr b ↦ inr (inr b) ]
  split_step p (Some u) ys ih (inl h) = inl h
  split_step p (Some u) ys ih (inr h) = inr (inr h)

  join_step : (p t : Option (ℕ × Touch)) (ys : List Batch) → (StandsAt s p (first_placed id ys) o k ⊎ StandsAfter s id None ys o k → StandsAfter s id p ys o k)
      → StandsAt s p (option_or t (first_placed id ys)) o k ⊎ (StandsAt s None t o k ⊎ StandsAfter s id (option_or t None) ys o k) → StandsAt s p t o k ⊎ StandsAfter s id (option_or t p) ys o k
  join_step p None ys ih (inl h) = inr (ih (inl h))
  join_step p None ys ih (inr (inl h)) = absurd h
  join_step p None ys ih (inr (inr h)) = inr (ih (inr h))
  join_step p (Some u) ys ih (inl h) = inl h
  join_step p (Some u) ys ih (inr (inl h)) = absurd h
  join_step p (Some u) ys ih (inr (inr h)) = inr h

  first_split : (p : Option (ℕ × Touch)) (ys : List Batch) → StandsAfter s id p ys o k → StandsAt s p (first_placed id ys) o k ⊎ StandsAfter s id None ys o k
  first_split p [] h = absurd h
  first_split p (y ∷ ys) h = split_step p (placed id y) ys (first_split p ys) h

  first_join : (p : Option (ℕ × Touch)) (ys : List Batch) → StandsAt s p (first_placed id ys) o k ⊎ StandsAfter s id None ys o k → StandsAfter s id p ys o k
  first_join p [] (inl h) = no_next p h
  first_join p [] (inr h) = h
  first_join p (y ∷ ys) h = join_step p (placed id y) ys (first_join p ys) h

  pub settled_split : (xs ys : List Batch) → IsSettled s (xs ++ ys) o id k → (IsSettled s xs o id k ⊎ IsSettled s ys o id k) ⊎ StandsAt s (last_placed id xs) (first_placed id ys) o k
  settled_split xs ys h =
      elim (after_both None xs ys h) [
        | inl a ↦ inl (inl a)
        | inr b ↦ elim (first_split (last_placed id xs) ys (subst (λ (p : Option (ℕ × Touch)). StandsAfter s id p ys o k) (or-none (last_placed id xs)) b)) [ inl d ↦ inr d | inr e ↦ inl (inr e) ]
      ]

  pub settled_join : (xs ys : List Batch) → (IsSettled s xs o id k ⊎ IsSettled s ys o id k) ⊎ StandsAt s (last_placed id xs) (first_placed id ys) o k → IsSettled s (xs ++ ys) o id k
  settled_join xs ys (inl (inl a)) = after_first None xs ys a
  settled_join xs ys (inl (inr b)) = after_second None xs ys (subst (λ (p : Option (ℕ × Touch)). StandsAfter s id p ys o k) (sym (or-none (last_placed id xs))) (first_join (last_placed id xs) ys (inr b)))
  settled_join xs ys (inr d) = after_second None xs ys (subst (λ (p : Option (ℕ × Touch)). StandsAfter s id p ys o k) (sym (or-none (last_placed id xs))) (first_join (last_placed id xs) ys (inl d)))

-- ---- the least of two

abbrev pub Below : Fault → ℕ → PairFault → Type 0
Below f o k = (f.offset < o) ⊎ ((f.offset ≡ o) × (number_of f.kind ≤ number_of k))

pub below_trans : (a b : Fault) (o : ℕ) (k : PairFault) → Below a b.offset b.kind → Below b o k → Below a o k
below_trans a b o k (inl x) (inl y) = inl (omega (arith, x, y))
below_trans a b o k (inl x) (inr y) = inl (omega (arith, x, y.0))
below_trans a b o k (inr x) (inl y) = inl (omega (arith, x.0, y))
below_trans a b o k (inr x) (inr y) = inr (x.0 ∙ y.0, omega (arith, x.1, y.1))

below_self : (a : Fault) → Below a a.offset a.kind
below_self a = inr (refl, omega arith)

-- the one that is chosen comes before both
pub record Chosen (a b c : Fault) : Type 0 where
  pub one : (c ≡ a) ⊎ (c ≡ b)
  pub first : Below c a.offset a.kind
  pub second : Below c b.offset b.kind

pub chosen : (a b : Fault) → Chosen a b (earlier_of a b)
chosen a b = by_first (nat_lt a.offset b.offset) refl
  where
    by_kind : (t : Bool) → nat_le (number_of a.kind) (number_of b.kind) ≡ t → b.offset ≤ a.offset → a.offset ≤ b.offset → Chosen a b (cond t a b)
    by_kind true e x y = record { one = inl refl; first = below_self a; second = inr (omega (arith, x, y), leb-true (number_of a.kind) (number_of b.kind) e) }
    by_kind false e x y = let l = leb-false (number_of a.kind) (number_of b.kind) e in record { one = inr refl; first = inr (omega (arith, x, y), omega (arith, l)); second = below_self b }

    by_second : (t : Bool) → nat_lt b.offset a.offset ≡ t → b.offset ≤ a.offset → Chosen a b (cond t b (cond (nat_le (number_of a.kind) (number_of b.kind)) a b))
    by_second true e x = record { one = inr refl; first = inl (ltb-true b.offset a.offset e); second = below_self b }
    by_second false e x = by_kind (nat_le (number_of a.kind) (number_of b.kind)) refl x (ltb-false b.offset a.offset e)

    by_first : (t : Bool) → nat_lt a.offset b.offset ≡ t → Chosen a b (cond t a (cond (nat_lt b.offset a.offset) b (cond (nat_le (number_of a.kind) (number_of b.kind)) a b)))
    by_first true e = record { one = inl refl; first = below_self a; second = inl (ltb-true a.offset b.offset e) }
    by_first false e = by_second (nat_lt b.offset a.offset) refl (ltb-false a.offset b.offset e)

module _ (P Q : ℕ → ℤ → PairFault → Type 0) where
  both_of : (a b c : Fault) → Chosen a b c → IsLeastOf P (Some a) → IsLeastOf Q (Some b) → IsLeastOf (λ o i k. P o i k ⊎ Q o i k) (Some c)
  both_of a b c h f g = (holds h.one, λ o i k x. elim x [ inl p ↦ below_trans c a o k h.first (f.1 o i k p) | inr q ↦ below_trans c b o k h.second (g.1 o i k q) ])
    where
      holds : (c ≡ a) ⊎ (c ≡ b) → P c.offset c.producer c.kind ⊎ Q c.offset c.producer c.kind
      holds (inl e) = inl (subst (λ (x : Fault). P x.offset x.producer x.kind) (sym e) f.0)
      holds (inr e) = inr (subst (λ (x : Fault). Q x.offset x.producer x.kind) (sym e) g.0)

  pub least_or : (f g : Option Fault) → IsLeastOf P f → IsLeastOf Q g → IsLeastOf (λ o i k. P o i k ⊎ Q o i k) (earlier f g)
  least_or None None f g = λ o i k x. elim x [ inl p ↦ f o i k p | inr q ↦ g o i k q ]
  least_or None (Some b) f g = (inr g.0, λ o i k x. elim x [ inl p ↦ absurd (f o i k p) | inr q ↦ g.1 o i k q ])
  least_or (Some a) None f g = (inl f.0, λ o i k x. elim x [ inl p ↦ f.1 o i k p | inr q ↦ absurd (g o i k q) ])
  least_or (Some a) (Some b) f g = both_of a b (earlier_of a b) (chosen a b) f g

  pub least_same : (f : Option Fault) → ((o : ℕ) (i : ℤ) (k : PairFault) → P o i k → Q o i k) → ((o : ℕ) (i : ℤ) (k : PairFault) → Q o i k → P o i k) → IsLeastOf P f → IsLeastOf Q f
  least_same None to from h = λ o i k q. h o i k (from o i k q)
  least_same (Some f) to from h = (to f.offset f.producer f.kind h.0, λ o i k q. h.1 o i k (from o i k q))
