-- The lesser of two, again and again, is the least.
use Rattle.std.proofs.Common.{◌≡◌, List, [], ◌∷◌, Option, Some, None, fold, refl, sym, subst, ap, ◌∙◌, inl, inr, ◌⊎◌, true, false, Bool, MatchOption, option_map, if◌then◌else◌}
use Rattle.std.specs.Ordering.{is_gt, ordering_reverse}
use Rattle.std.specs.Cmp.{IsTotalOrder}
use Rattle.std.specs.declared.cmp.Ordering.{Ordering}
use Rattle.std.specs.declared.cmp.Ordering.TheVariants.{Less, Equal, Greater}
use Rattle.std.proofs.lemmas.Cmp.{upto, tied_itself}
use Rattle.eos_base.specs.Members.{Has}
use Rattle.eos_base.specs.Least.{UpTo, IsLeast, IsLeastOrNone, lesser_of}
use Rattle.eos_base.specs.steps.Least.{IsExact}
use Rattle.eos_base.proofs.Decides.{differs}

-- the lesser of two is that of what they stand for, if these are ordered alike
pub lesser_viewed : {X Y : Type 0} (view : X → Y) (cmp : X → X → Ordering) (other : Y → Y → Ordering) → ((x y : X) → cmp x y ≡ other (view x) (view y))
    → (best : Option X) (next : X) → option_map view (lesser_of cmp best next) ≡ lesser_of other (option_map view best) (view next)
lesser_viewed view cmp other alike None next = refl
lesser_viewed {X} {Y} view cmp other alike (Some x) next = chosen (is_gt (cmp x next)) ∙ ap (λ o. if is_gt o then Some (view next) else Some (view x)) (alike x next)
  where
    chosen : (b : Bool) → option_map view (if b then Some next else Some x) ≡ (if b then Some (view next) else Some (view x))
    chosen true = refl
    chosen false = refl

-- neither is greater
pub both_least : {X : Type 0} {cmp : X → X → Ordering} → IsTotalOrder cmp → IsExact cmp → (x y : X) → UpTo cmp x y → UpTo cmp y x → x ≡ y
both_least {X} {cmp} o exact x y p q = exact x y (tied (cmp x y) (cmp y x) (o.antisymm x y) p q)
  where
    tied : (a b : Ordering) → a ≡ ordering_reverse b → is_gt a ≡ false → is_gt b ≡ false → a ≡ Equal
    tied Equal b e p q = refl
    tied Greater b e p q = absurd cc
    tied Less Less e p q = absurd cc
    tied Less Equal e p q = absurd cc
    tied Less Greater e p q = absurd cc

pub one_least : {X : Type 0} {cmp : X → X → Ordering} → IsTotalOrder cmp → IsExact cmp → (Stands : X → Type 0) (x y : X) → IsLeast cmp Stands x → IsLeast cmp Stands y → x ≡ y
one_least o exact Stands x y l m = both_least o exact x y (l.least y m.stands) (m.least x l.stands)

module _ {X : Type 0} {cmp : X → X → Ordering} (o : IsTotalOrder cmp) where
  pub upto_itself : (x : X) → UpTo cmp x x
  upto_itself x = let e = tied_itself o x in rw e refl

  pub upto_same : (x y : X) → x ≡ y → UpTo cmp x y
  upto_same x y e = subst (λ z. UpTo cmp x z) e (upto_itself x)

  pub upto_trans : (x y z : X) → UpTo cmp x y → UpTo cmp y z → UpTo cmp x z
  upto_trans x y z = upto o x y z

  -- what is not greater, the other way round
  pub other_way : (x y : X) → is_gt (cmp x y) ≡ true → UpTo cmp y x
  other_way x y e = go (cmp x y) (cmp y x) (o.antisymm y x) e
    where
      go : (a b : Ordering) → b ≡ ordering_reverse a → is_gt a ≡ true → is_gt b ≡ false
      go Greater b q e = rw q refl
      go Less b q e = absurd cc
      go Equal b q e = absurd cc

  record Lesser (b : Option X) (x r : X) : Type 0 where
    is : lesser_of cmp b x ≡ Some r
    from : (b ≡ Some r) ⊎ (x ≡ r)
    old : (y : X) → b ≡ Some y → UpTo cmp r y
    new : UpTo cmp r x

  lesser_is : (b : Option X) (x : X) → (r : X) × Lesser b x r
  lesser_is None x = (x, record { is = refl; from = inr refl; old = λ y e. absurd cc; new = upto_itself x })
  lesser_is (Some f) x = go (is_gt (cmp f x)) refl
    where
      inside : (y : X) → Some f ≡ Some y → f ≡ y
      inside y e = cc

      go : (b : Bool) → is_gt (cmp f x) ≡ b → (r : X) × Lesser (Some f) x r
      go true q = (x, record { is = rw q refl; from = inr refl; old = λ y e. subst (λ z. UpTo cmp x z) (inside y e) (other_way f x q); new = upto_itself x })
      go false q = (f, record { is = rw q refl; from = inl refl; old = λ y e. upto_same f y (inside y e); new = q })

  pub record IsLeastAmong (b : Option X) (xs : List X) (f : X) : Type 0 where
    pub from : (b ≡ Some f) ⊎ Has xs f
    pub start : (y : X) → b ≡ Some y → UpTo cmp f y
    pub all : (y : X) → Has xs y → UpTo cmp f y

  pub fold_least : (b : Option X) (xs : List X) → MatchOption (fold (lesser_of cmp) b xs) ((b ≡ None) × ((y : X) → Has xs y → ⊥)) (IsLeastAmong b xs)
  fold_least None [] = (refl, λ y h. h)
  fold_least (Some f) [] = record { from = inl refl; start = λ y e. upto_same f y cc; all = λ y h. absurd h }
  fold_least b (x ∷ xs) =
      let s = lesser_is b x in
      step s.0 s.1 (fold (lesser_of cmp) (lesser_of cmp b x) xs) (fold_least (lesser_of cmp b x) xs)
    where
      step : (r : X) → Lesser b x r → (w : Option X) → MatchOption w ((lesser_of cmp b x ≡ None) × ((y : X) → Has xs y → ⊥)) (IsLeastAmong (lesser_of cmp b x) xs)
          → MatchOption w ((b ≡ None) × ((y : X) → Has (x ∷ xs) y → ⊥)) (IsLeastAmong b (x ∷ xs))
      step r l None m = let e : Some r ≡ None = sym l.is ∙ m.0 in absurd cc
      step r l (Some f) m =
          let below : UpTo cmp f r = m.start r l.is in record {
            from = from m.from;
            start = λ y e. upto_trans f r y below (l.old y e);
            all = λ y h. every y below h;
          }
        where
          first : (b ≡ Some r) ⊎ (x ≡ r) → r ≡ f → (b ≡ Some f) ⊎ Has (x ∷ xs) f
          first (inl e) q = inl (e ∙ ap Some q)
          first (inr e) q = inr (inl (e ∙ q))

          same : (z : Option X) → z ≡ Some r → z ≡ Some f → r ≡ f
          same z e q = cc

          from : (lesser_of cmp b x ≡ Some f) ⊎ Has xs f → (b ≡ Some f) ⊎ Has (x ∷ xs) f
          from (inl e) = first l.from (same (lesser_of cmp b x) l.is e)
          from (inr h) = inr (inr h)

          every : (y : X) → UpTo cmp f r → Has (x ∷ xs) y → UpTo cmp f y
          every y below (inl e) = subst (λ z. UpTo cmp f z) e (upto_trans f r x below l.new)
          every y below (inr h) = m.all y h

  -- the least of the members that a test accepts, or it accepts none
  abbrev pub LeastTested : (X → Bool) → List X → Type 0
  LeastTested p xs = ((x : X) × (p x ≡ true) × ((y : X) → Has xs y → p y ≡ true → UpTo cmp x y)) ⊎ ((x : X) → Has xs x → p x ≡ true → ⊥)

  pub least_tested : (p : X → Bool) (xs : List X) → LeastTested p xs
  least_tested p [] = inr (λ x h e. h)
  least_tested p (y ∷ ys) = go (p y) refl (least_tested p ys)
    where
      at_y : {x : X} → y ≡ x → p x ≡ true → p y ≡ true
      at_y e t = subst (λ z. p z ≡ true) (sym e) t

      lower : (x : X) → p x ≡ true → ((z : X) → Has ys z → p z ≡ true → UpTo cmp x z) → p y ≡ true → (b : Bool) → is_gt (cmp y x) ≡ b → LeastTested p (y ∷ ys)
      lower x t below here true q = inl (x, t, λ z h e. elim h [ inl s ↦ subst (λ w. UpTo cmp x w) s (other_way y x q) | inr k ↦ below z k e ])
      lower x t below here false q = inl (y, here, λ z h e. elim h [ inl s ↦ upto_same y z s | inr k ↦ upto_trans y x z q (below z k e) ])

      go : (b : Bool) → p y ≡ b → LeastTested p ys → LeastTested p (y ∷ ys)
      go true here (inl r) = lower r.0 r.1 r.2 here (is_gt (cmp y r.0)) refl
      go true here (inr nope) = inl (y, here, λ z h e. elim h [ inl s ↦ upto_same y z s | inr k ↦ absurd (nope z k e) ])
      go false other (inl r) = inl (r.0, r.1, λ z h e. elim h [ inl s ↦ absurd (differs (p y) other (at_y s e)) | inr k ↦ r.2 z k e ])
      go false other (inr nope) = inr (λ z h e. elim h [ inl s ↦ differs (p y) other (at_y s e) | inr k ↦ nope z k e ])

-- The least of a list of candidates is the least of what stands, where each candidate goes after something that stands,
-- and each thing that stands after a candidate.
pub least_by_candidates : {X : Type 0} {cmp : X → X → Ordering} → IsTotalOrder cmp → IsExact cmp → (Stands : X → Type 0) (all : List X)
    → ((x : X) → Has all x → (y : X) × Stands y × UpTo cmp y x) → ((y : X) → Stands y → (x : X) × Has all x × UpTo cmp x y)
    → (w : Option X) → w ≡ fold (lesser_of cmp) None all → IsLeastOrNone cmp Stands w
least_by_candidates {X} {cmp} o exact Stands all sound whole w e = subst (IsLeastOrNone cmp Stands) (sym e) (go (fold (lesser_of cmp) None all) (fold_least o None all))
  where
    start : Option X
    start = None

    go : (w : Option X) → MatchOption w ((start ≡ start) × ((y : X) → Has all y → ⊥)) (IsLeastAmong o start all) → IsLeastOrNone cmp Stands w
    go None m = λ y st. let r = whole y st in m.1 r.0 r.1
    go (Some f) l =
        let below : (y : X) → Stands y → UpTo cmp f y = λ y st. let r = whole y st in upto_trans o f r.0 y (l.all r.0 r.1) r.2 in
        let inside : Has all f = elim l.from [ inl q ↦ absurd (nope f q) | inr h ↦ h ] in
        let r = sound f inside in
        let is : f ≡ r.0 = both_least o exact f r.0 (below r.0 r.1) r.2 in
        record { stands = subst Stands (sym is) r.1; least = below }
      where
        nope : (f : X) → start ≡ Some f → ⊥
        nope f q = absurd cc
