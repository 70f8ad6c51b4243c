-- The ids of a table, judged one after the other.
use Rattle.std.proofs.Common.{◌≡◌, ℕ, ◌⊎◌, inl, inr, Bool, true, false, cond, List, [], ◌∷◌, Option, Some, None, refl, sym, ap, subst, ◌∙◌, arith, ℤ}
use Rattle.std.specs.Prelude.{◌≤ℤ◌}
use Rattle.std.specs.Ordering.{int_eq, int_cmp}
use Rattle.std.specs.Map.{lookup}
use Rattle.std.specs.BTreeMap.{get, is_at}
use Rattle.std.specs.List.{All, AllByRecursion}
use Rattle.std.proofs.lemmas.Int.{ints}
use Rattle.std.proofs.lemmas.List.Elements.{recursion_from_All}
use Rattle.eos_touch.specs.declared.touch.Touch.{Touch}
use Rattle.eos_touch.specs.declared.pair.PairFault.{PairFault}
use Rattle.eos_batch.specs.declared.batch.Batch.{Batch}
use Rattle.eos_fold.specs.Ends.{first_placed, last_placed}
use Rattle.eos_fold.specs.declared.ends.Ends.{Ends}
use Rattle.eos_fold.specs.declared.fault.Fault.{Fault}
use Rattle.eos_fold.specs.Tables.{Table, ends_in, ends_at, HasEnds}
use Rattle.eos_fold.specs.Faults.{IsSettled, IsLeastOf}
use Rattle.eos_fold.specs.Earlier.{earlier_of, earlier}
use Rattle.eos_fold.specs.steps.Alone.{Claims}
use Rattle.eos_fold.specs.BatchesWhole.{StandsFirst, StandsInWhole, IsLeftOpen, IsLeastId, IsLeastOpen}
use Rattle.eos_fold.proofs.SettledFaults.{Below, Chosen, chosen, below_trans}
use Rattle.eos_fold.proofs.TableWrites.{same_id}

-- what is left to judge is what the table has
abbrev pub AreFound : Table → List (ℤ × Ends) → Type 0
AreFound t rest = AllByRecursion (λ e. get int_cmp t e.0 ≡ Some e.1) rest

abbrev pub left : List (ℤ × Ends) → ℤ → Option Ends
left rest id = lookup (is_at (int_cmp id)) rest

-- an id that is judged already, or is here
judged_or_here : (t : Table) (k id : ℤ) (r : Ends) (more : List (ℤ × Ends)) → get int_cmp t k ≡ Some r → left more id ≡ None
    → (left ((k, r) ∷ more) id ≡ None) ⊎ ((id ≡ k) × (ends_at t id ≡ r))
judged_or_here t k id r more g n = by_test (int_eq id k) refl
  where
    by_test : (b : Bool) → int_eq id k ≡ b → (cond (int_eq id k) (Some r) (left more id) ≡ None) ⊎ ((id ≡ k) × (ends_at t id ≡ r))
    by_test true e = let i = same_id id k e in inr (i, ap (ends_at t) i ∙ ap ends_in g)
    by_test false e = inl (ap (λ (b : Bool). cond b (Some r) (left more id)) e ∙ n)

-- ---- the least fault

-- it stands, and none that is claimed comes before it
abbrev pub IsLeastSoFar : Claims → Claims → Option Fault → Type 0
IsLeastSoFar Claimed Stands None = (o : ℕ) (id : ℤ) (k : PairFault) → Claimed o id k → ⊥
IsLeastSoFar Claimed Stands (Some f) = Stands f.offset f.producer f.kind × ((o : ℕ) (id : ℤ) (k : PairFault) → Claimed o id k → Below f o k)

abbrev pub Judged : Bool → List Batch → Table → List (ℤ × Ends) → Claims
Judged s hs t rest o id k = IsSettled s hs o id k ⊎ ((left rest id ≡ None) × StandsFirst s (ends_at t id).first o k)

pub so_far : (Claimed Stands : Claims) (f : Option Fault) → ((o : ℕ) (id : ℤ) (k : PairFault) → Stands o id k → Claimed o id k) → IsLeastSoFar Claimed Stands f → IsLeastOf Stands f
so_far Claimed Stands None up h = λ o id k t. h o id k (up o id k t)
so_far Claimed Stands (Some f) up h = (h.0, λ o id k t. h.1 o id k (up o id k t))

-- two answers, of which the lesser one is kept
more_so_far : (C D S T : Claims) (f g : Option Fault) → IsLeastSoFar C S f → IsLeastOf T g → ((o : ℕ) (id : ℤ) (k : PairFault) → T o id k → S o id k)
    → ((o : ℕ) (id : ℤ) (k : PairFault) → D o id k → C o id k ⊎ T o id k) → IsLeastSoFar D S (earlier f g)
more_so_far C D S T None None h l up split = λ o id k d. elim (split o id k d) [ inl x ↦ h o id k x | inr y ↦ l o id k y ]
more_so_far C D S T None (Some b) h l up split = (up b.offset b.producer b.kind l.0, λ o id k d. elim (split o id k d) [ inl x ↦ absurd (h o id k x) | inr y ↦ l.1 o id k y ])
more_so_far C D S T (Some a) None h l up split = (h.0, λ o id k d. elim (split o id k d) [ inl x ↦ h.1 o id k x | inr y ↦ absurd (l o id k y) ])
more_so_far C D S T (Some a) (Some b) h l up split = both (earlier_of a b) (chosen a b)
  where
    holds : (e : Fault) → (e ≡ a) ⊎ (e ≡ b) → S e.offset e.producer e.kind
    holds e (inl q) = subst (λ (x : Fault). S x.offset x.producer x.kind) (sym q) h.0
    holds e (inr q) = subst (λ (x : Fault). S x.offset x.producer x.kind) (sym q) (up b.offset b.producer b.kind l.0)

    both : (e : Fault) → Chosen a b e → IsLeastSoFar D S (Some e)
    both e c = (holds e c.one, λ o id k d. elim (split o id k d) [ inl x ↦ below_trans e a o k c.first (h.1 o id k x) | inr y ↦ below_trans e b o k c.second (l.1 o id k y) ])

no_first : (s : Bool) (e : Ends) (o : ℕ) (k : PairFault) → e ≡ ends_in None → StandsFirst s e.first o k → ⊥
no_first s e o k q h = subst (λ (x : Ends). StandsFirst s x.first o k) q h

unlisted : (t : Table) (rest : List (ℤ × Ends)) (id : ℤ) → rest ≡ t.entries → left rest id ≡ None → ends_at t id ≡ ends_in None
unlisted t rest id is n = ap ends_in (sym (ap (λ (es : List (ℤ × Ends)). left es id) is) ∙ n)

pub judged_start : (s : Bool) (hs : List Batch) (t : Table) (rest : List (ℤ × Ends)) (f : Option Fault) → rest ≡ t.entries → IsLeastOf (IsSettled s hs) f → IsLeastSoFar (Judged s hs t rest) (StandsInWhole s hs) f
judged_start s hs t rest None is h = λ o id k j. elim j [ inl x ↦ h o id k x | inr y ↦ no_first s (ends_at t id) o k (unlisted t rest id is y.0) y.1 ]
judged_start s hs t rest (Some f) is h = (inl h.0, λ o id k j. elim j [ inl x ↦ h.1 o id k x | inr y ↦ absurd (no_first s (ends_at t id) o k (unlisted t rest id is y.0) y.1) ])

pub judged_step : (s : Bool) (hs : List Batch) (t : Table) (p k : ℤ) (r : Ends) (rest more : List (ℤ × Ends)) (f g : Option Fault) → p ≡ k → rest ≡ (k, r) ∷ more → HasEnds hs t → AreFound t rest
    → IsLeastOf (λ o id x. (id ≡ p) × StandsFirst s r.first o x) g → IsLeastSoFar (Judged s hs t rest) (StandsInWhole s hs) f → IsLeastSoFar (Judged s hs t more) (StandsInWhole s hs) (earlier f g)
judged_step s hs t p k r rest more f g pk is ends found here h =
    more_so_far (Judged s hs t rest) (Judged s hs t more) (StandsInWhole s hs) (λ o id x. (id ≡ p) × StandsFirst s r.first o x) f g h here up split
  where
    at_head : get int_cmp t k ≡ Some r
    at_head = (subst (λ (es : List (ℤ × Ends)). AreFound t es) is found).0

    first_is : r.first ≡ first_placed k hs
    first_is = sym (ap (λ (e : Ends). e.first) (ap ends_in at_head)) ∙ (ends k).first

    up : (o : ℕ) (id : ℤ) (x : PairFault) → (id ≡ p) × StandsFirst s r.first o x → StandsInWhole s hs o id x
    up o id x y = inr (subst (λ (i : ℤ). StandsFirst s (first_placed i hs) o x) (sym (y.0 ∙ pk)) (subst (λ (u : Option (ℕ × Touch)). StandsFirst s u o x) first_is y.1))

    split : (o : ℕ) (id : ℤ) (x : PairFault) → Judged s hs t more o id x → Judged s hs t rest o id x ⊎ ((id ≡ p) × StandsFirst s r.first o x)
    split o id x (inl y) = inl (inl y)
    split o id x (inr y) = elim (judged_or_here t k id r more at_head y.0) [
      | inl n ↦ inl (inr (ap (λ (es : List (ℤ × Ends)). left es id) is ∙ n, y.1))
      | inr z ↦ inr (z.0 ∙ sym pk, subst (λ (e : Ends). StandsFirst s e.first o x) z.1 y.1)
    ]

pub judged_end : (s : Bool) (hs : List Batch) (t : Table) (rest : List (ℤ × Ends)) (f : Option Fault) → rest ≡ [] → HasEnds hs t → IsLeastSoFar (Judged s hs t rest) (StandsInWhole s hs) f → IsLeastOf (StandsInWhole s hs) f
judged_end s hs t rest f is ends h = so_far (Judged s hs t rest) (StandsInWhole s hs) f up h
  where
    up : (o : ℕ) (id : ℤ) (k : PairFault) → StandsInWhole s hs o id k → Judged s hs t rest o id k
    up o id k (inl x) = inl x
    up o id k (inr y) = inr (ap (λ (es : List (ℤ × Ends)). left es id) is, subst (λ (u : Option (ℕ × Touch)). StandsFirst s u o k) (sym (ends id).first) y)

pub found_start : (t : Table) (rest : List (ℤ × Ends)) → rest ≡ t.entries → All (λ e. get int_cmp t e.0 ≡ Some e.1) t.entries → AreFound t rest
found_start t rest is found = subst (λ (es : List (ℤ × Ends)). AreFound t es) (sym is) (recursion_from_All (λ e. get int_cmp t e.0 ≡ Some e.1) t.entries found)

pub found_more : (t : Table) (k : ℤ) (r : Ends) (rest more : List (ℤ × Ends)) → rest ≡ (k, r) ∷ more → AreFound t rest → AreFound t more
found_more t k r rest more is found = (subst (λ (es : List (ℤ × Ends)). AreFound t es) is found).1

-- ---- the least open id

abbrev pub OpenSoFar : Table → List (ℤ × Ends) → ℤ → Type 0
OpenSoFar t rest id = (left rest id ≡ None) × IsLeftOpen (ends_at t id).last

abbrev pub IsOpenIn : List Batch → ℤ → Type 0
IsOpenIn hs id = IsLeftOpen (last_placed id hs)

-- it is open, and none that was judged is less
abbrev pub IsIdSoFar : (ℤ → Type 0) → (ℤ → Type 0) → Option ℤ → Type 0
IsIdSoFar C S None = (id : ℤ) → C id → ⊥
IsIdSoFar C S (Some least) = S least × ((id : ℤ) → C id → least ≤ℤ id)

no_last : (e : Ends) → e ≡ ends_in None → IsLeftOpen e.last → ⊥
no_last e q h = subst (λ (x : Ends). IsLeftOpen x.last) q h

pub open_start : (hs : List Batch) (t : Table) (rest : List (ℤ × Ends)) → rest ≡ t.entries → IsIdSoFar (OpenSoFar t rest) (IsOpenIn hs) None
open_start hs t rest is = λ id j. no_last (ends_at t id) (unlisted t rest id is j.0) j.1

pub open_step : (hs : List Batch) (t : Table) (p k : ℤ) (r : Ends) (rest more : List (ℤ × Ends)) (f g : Option ℤ) → p ≡ k → rest ≡ (k, r) ∷ more → HasEnds hs t → AreFound t rest
    → IsLeastId (λ i. (f ≡ Some i) ⊎ ((i ≡ p) × IsLeftOpen r.last)) g → IsIdSoFar (OpenSoFar t rest) (IsOpenIn hs) f → IsIdSoFar (OpenSoFar t more) (IsOpenIn hs) g
open_step hs t p k r rest more f g pk is ends found here h = go f g h here
  where
    at_head : get int_cmp t k ≡ Some r
    at_head = (subst (λ (es : List (ℤ × Ends)). AreFound t es) is found).0

    last_is : r.last ≡ last_placed k hs
    last_is = sym (ap (λ (e : Ends). e.last) (ap ends_in at_head)) ∙ (ends k).last

    up : (i : ℤ) → i ≡ p → IsLeftOpen r.last → IsOpenIn hs i
    up i e y = subst (λ (j : ℤ). IsOpenIn hs j) (sym (e ∙ pk)) (subst (λ (u : Option (ℕ × Touch)). IsLeftOpen u) last_is y)

    split : (id : ℤ) → OpenSoFar t more id → OpenSoFar t rest id ⊎ ((id ≡ p) × IsLeftOpen r.last)
    split id y = elim (judged_or_here t k id r more at_head y.0) [
      | inl n ↦ inl (ap (λ (es : List (ℤ × Ends)). left es id) is ∙ n, y.1)
      | inr z ↦ inr (z.0 ∙ sym pk, subst (λ (e : Ends). IsLeftOpen e.last) z.1 y.1)
    ]

    some_is : (x y : ℤ) → Some x ≡ Some y → x ≡ y
    some_is x y e = cc

    go : (f g : Option ℤ) → IsIdSoFar (OpenSoFar t rest) (IsOpenIn hs) f → IsLeastId (λ i. (f ≡ Some i) ⊎ ((i ≡ p) × IsLeftOpen r.last)) g → IsIdSoFar (OpenSoFar t more) (IsOpenIn hs) g
    go None None h l = λ id y. elim (split id y) [ inl x ↦ h id x | inr z ↦ l id (inr z) ]
    go None (Some b) h l = (elim l.0 [ inl e ↦ absurd cc | inr z ↦ up b z.0 z.1 ], λ id y. elim (split id y) [ inl x ↦ absurd (h id x) | inr z ↦ l.1 id (inr z) ])
    go (Some a) None h l = absurd (l a (inl refl))
    go (Some a) (Some b) h l = (
      elim l.0 [ inl e ↦ subst (IsOpenIn hs) (some_is a b e) h.0 | inr z ↦ up b z.0 z.1 ],
      λ id y. elim (split id y) [ inl x ↦ (let q = h.1 id x in let w = l.1 a (inl refl) in omega (arith, ints, q, w)) | inr z ↦ l.1 id (inr z) ],
    )

pub open_end : (hs : List Batch) (t : Table) (rest : List (ℤ × Ends)) (f : Option ℤ) → rest ≡ [] → HasEnds hs t → IsIdSoFar (OpenSoFar t rest) (IsOpenIn hs) f → IsLeastOpen hs f
open_end hs t rest f is ends h = go f h
  where
    up : (id : ℤ) → IsOpenIn hs id → OpenSoFar t rest id
    up id y = (ap (λ (es : List (ℤ × Ends)). left es id) is, subst (λ (u : Option (ℕ × Touch)). IsLeftOpen u) (sym (ends id).last) y)

    go : (f : Option ℤ) → IsIdSoFar (OpenSoFar t rest) (IsOpenIn hs) f → IsLeastOpen hs f
    go None h = λ id y. h id (up id y)
    go (Some a) h = (h.0, λ id y. h.1 id (up id y))
