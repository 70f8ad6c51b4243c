-- Neighbours of a list in order: where a property of its members changes, and what stands between.
use Rattle.std.proofs.Common.{◌≡◌, List, [], ◌∷◌, refl, sym, subst, inl, inr, ◌⊎◌}
use Rattle.std.specs.Cmp.{IsTotalOrder}
use Rattle.std.specs.declared.cmp.Ordering.{Ordering}
use Rattle.eos_base.specs.Members.{Has}
use Rattle.eos_base.specs.steps.Decided.{Decided}
use Rattle.eos_base.specs.Least.{UpTo}
use Rattle.eos_base.proofs.LeastOf.{upto_itself, upto_trans, upto_same}
use Rattle.eos_claims.specs.Candidates.{IsInOrder}

-- the second right after the first
abbrev pub Adjacent : {X : Type 0} → List X → X → X → Type 0
Adjacent [] y z = ⊥
Adjacent (x ∷ []) y z = ⊥
Adjacent (x ∷ w ∷ xs) y z = ((x ≡ y) × (w ≡ z)) ⊎ Adjacent (w ∷ xs) y z

abbrev pub IsHead : {X : Type 0} → List X → X → Type 0
IsHead [] y = ⊥
IsHead (x ∷ xs) y = x ≡ y

abbrev pub IsLast : {X : Type 0} → List X → X → Type 0
IsLast [] y = ⊥
IsLast (x ∷ []) y = x ≡ y
IsLast (x ∷ w ∷ xs) y = IsLast (w ∷ xs) y

pub adjacent_has : {X : Type 0} (xs : List X) (y z : X) → Adjacent xs y z → Has xs y × Has xs z
adjacent_has [] y z h = absurd h
adjacent_has (x ∷ []) y z h = absurd h
adjacent_has (x ∷ w ∷ xs) y z (inl e) = (inl e.0, inr (inl e.1))
adjacent_has (x ∷ w ∷ xs) y z (inr h) = let r = adjacent_has (w ∷ xs) y z h in (inr r.0, inr r.1)

pub head_has : {X : Type 0} (xs : List X) (y : X) → IsHead xs y → Has xs y
head_has [] y h = absurd h
head_has (x ∷ xs) y h = inl h

pub last_has : {X : Type 0} (xs : List X) (y : X) → IsLast xs y → Has xs y
last_has [] y h = absurd h
last_has (x ∷ []) y h = inl h
last_has (x ∷ w ∷ xs) y h = inr (last_has (w ∷ xs) y h)

module _ {X : Type 0} {cmp : X → X → Ordering} (o : IsTotalOrder cmp) where
  -- the head is not greater than any
  pub head_low : (xs : List X) → IsInOrder cmp xs → (y d : X) → IsHead xs y → Has xs d → UpTo cmp y d
  head_low [] s y d h k = absurd h
  head_low (x ∷ xs) s y d h (inl e) = subst (λ z. UpTo cmp z d) h (upto_same o x d e)
  head_low (x ∷ xs) s y d h (inr k) = subst (λ z. UpTo cmp z d) h (s.0 d k)

  pub last_high : (xs : List X) → IsInOrder cmp xs → (y d : X) → IsLast xs y → Has xs d → UpTo cmp d y
  last_high [] s y d h k = absurd h
  last_high (x ∷ []) s y d h (inl e) = subst (λ z. UpTo cmp d z) h (upto_same o d x (sym e))
  last_high (x ∷ []) s y d h (inr k) = absurd k
  last_high (x ∷ w ∷ xs) s y d h (inl e) = subst (λ z. UpTo cmp z y) e (s.0 y (last_has (w ∷ xs) y h))
  last_high (x ∷ w ∷ xs) s y d h (inr k) = last_high (w ∷ xs) s.1 y d h k

  pub adjacent_up : (xs : List X) → IsInOrder cmp xs → (y z : X) → Adjacent xs y z → UpTo cmp y z
  adjacent_up [] s y z h = absurd h
  adjacent_up (x ∷ []) s y z h = absurd h
  adjacent_up (x ∷ w ∷ xs) s y z (inl e) = subst (λ u. UpTo cmp u z) e.0 (s.0 z (inl e.1))
  adjacent_up (x ∷ w ∷ xs) s y z (inr h) = adjacent_up (w ∷ xs) s.1 y z h

  -- none stands between two neighbours
  pub not_between : (xs : List X) → IsInOrder cmp xs → (y z : X) → Adjacent xs y z → (d : X) → Has xs d → UpTo cmp d y ⊎ UpTo cmp z d
  not_between [] s y z h d k = absurd h
  not_between (x ∷ []) s y z h d k = absurd h
  not_between (x ∷ w ∷ xs) s y z (inl e) d (inl q) = inl (subst (λ u. UpTo cmp d u) e.0 (upto_same o d x (sym q)))
  not_between (x ∷ w ∷ xs) s y z (inl e) d (inr k) = inr (head_low (w ∷ xs) s.1 z d e.1 k)
  not_between (x ∷ w ∷ xs) s y z (inr h) d (inl q) = inl (subst (λ u. UpTo cmp u y) q (s.0 y (adjacent_has (w ∷ xs) y z h).0))
  not_between (x ∷ w ∷ xs) s y z (inr h) d (inr k) = not_between (w ∷ xs) s.1 y z h d k

  -- a property changes from one member to a later one
  pub record Turn (P : X → Type 0) (xs : List X) (u v : X) : Type 0 where
    pub y : X
    pub z : X
    pub adjacent : Adjacent xs y z
    pub yes : P y
    pub nope : P z → ⊥
    pub low : UpTo cmp u y
    pub high : UpTo cmp z v

  pub turn : (P : X → Type 0) → ((x : X) → Decided (P x)) → (u : X) (xs : List X) → IsInOrder cmp (u ∷ xs) → P u → (v : X) → Has xs v → (P v → ⊥) → Turn P (u ∷ xs) u v
  turn P dec u [] s p v h n = absurd h
  turn P dec u (w ∷ xs) s p v h n = elim (dec w) [
    | inr m ↦ record { y = u; z = w; adjacent = inl (refl, refl); yes = p; nope = m; low = upto_itself o u; high = head_low (w ∷ xs) s.1 w v refl h }
    | inl q ↦ go h q (λ k. turn P dec w xs s.1 q v k n)
  ]
    where
      lower : Turn P (w ∷ xs) w v → Turn P (u ∷ w ∷ xs) u v
      lower t = record { y = t.y; z = t.z; adjacent = inr t.adjacent; yes = t.yes; nope = t.nope; low = upto_trans o u w t.y (s.0 w (inl refl)) t.low; high = t.high }

      go : Has (w ∷ xs) v → P w → (Has xs v → Turn P (w ∷ xs) w v) → Turn P (u ∷ w ∷ xs) u v
      go (inl e) q rest = absurd (n (subst P e q))
      go (inr k) q rest = lower (rest k)

  -- the first that has a property, from which it is no greater than the others
  pub record First (P : X → Type 0) (xs : List X) (v : X) : Type 0 where
    pub y : X
    pub yes : P y
    pub low : UpTo cmp y v
    pub begins : IsHead xs y ⊎ ((w : X) × Adjacent xs w y × (P w → ⊥))

  pub first_of : (P : X → Type 0) → ((x : X) → Decided (P x)) → (xs : List X) → IsInOrder cmp xs → (v : X) → Has xs v → P v → First P xs v
  first_of P dec [] s v h p = absurd h
  first_of P dec (x ∷ xs) s v h p = elim (dec x) [
    | inl q ↦ record { y = x; yes = q; low = head_low (x ∷ xs) s x v refl h; begins = inl refl }
    | inr n ↦ go xs s h n (λ k. first_of P dec xs s.1 v k p)
  ]
    where
      joined : (xs : List X) (y : X) → IsHead xs y ⊎ ((w : X) × Adjacent xs w y × (P w → ⊥)) → (P x → ⊥) → IsHead (x ∷ xs) y ⊎ ((w : X) × Adjacent (x ∷ xs) w y × (P w → ⊥))
      joined [] y (inl h) n = absurd h
      joined (w ∷ xs) y (inl h) n = inr (x, inl (refl, h), n)
      joined [] y (inr r) n = absurd (r.1)
      joined (w ∷ xs) y (inr r) n = inr (r.0, inr r.1, r.2)

      go : (xs : List X) → IsInOrder cmp (x ∷ xs) → Has (x ∷ xs) v → (P x → ⊥) → (Has xs v → First P xs v) → First P (x ∷ xs) v
      go xs s (inl e) n f = absurd (n (subst P (sym e) p))
      go xs s (inr k) n f = let r = f k in record { y = r.y; yes = r.yes; low = r.low; begins = joined xs r.y r.begins n }

  -- the last that has a property, from one that has it
  pub record Last (P : X → Type 0) (xs : List X) (v : X) : Type 0 where
    pub y : X
    pub has : Has xs y
    pub yes : P y
    pub high : UpTo cmp v y
    pub ends : IsLast xs y ⊎ ((z : X) × Adjacent xs y z × (P z → ⊥))

  pub last_of : (P : X → Type 0) → ((x : X) → Decided (P x)) → (xs : List X) → IsInOrder cmp xs → (v : X) → Has xs v → P v → Last P xs v
  last_of P dec [] s v h p = absurd h
  last_of P dec (x ∷ []) s v (inl e) p = record { y = x; has = inl refl; yes = subst P (sym e) p; high = upto_same o v x (sym e); ends = inl refl }
  last_of P dec (x ∷ []) s v (inr k) p = absurd k
  last_of P dec (x ∷ w ∷ xs) s v h p = go h (dec w) (λ u k q. last_of P dec (w ∷ xs) s.1 u k q)
    where
      raise : (u : X) → UpTo cmp v u → Last P (w ∷ xs) u → Last P (x ∷ w ∷ xs) v
      raise u below r = record {
        y = r.y;
        has = inr r.has;
        yes = r.yes;
        high = upto_trans o v u r.y below r.high;
        ends = elim r.ends [ inl l ↦ inl l | inr n ↦ inr (n.0, inr n.1, n.2) ];
      }

      go : Has (x ∷ w ∷ xs) v → Decided (P w) → ((u : X) → Has (w ∷ xs) u → P u → Last P (w ∷ xs) u) → Last P (x ∷ w ∷ xs) v
      go (inl e) (inl q) rest = raise w (subst (λ u. UpTo cmp u w) e (s.0 w (inl refl))) (rest w (inl refl) q)
      go (inl e) (inr n) rest = record { y = x; has = inl refl; yes = subst P (sym e) p; high = upto_same o v x (sym e); ends = inr (w, inl (refl, refl), n) }
      go (inr k) d rest = raise v (upto_itself o v) (rest v k p)

  -- one member has a property and another one hasn't, so two neighbours between them differ in it
  pub record Change (P : X → Type 0) (xs : List X) (u v : X) : Type 0 where
    pub y : X
    pub z : X
    pub adjacent : Adjacent xs y z
    pub differ : (P y × (P z → ⊥)) ⊎ ((P y → ⊥) × P z)
    pub low : UpTo cmp u y ⊎ UpTo cmp v y
    pub high : UpTo cmp z u ⊎ UpTo cmp z v

  pub change : (P : X → Type 0) → ((x : X) → Decided (P x)) → (xs : List X) → IsInOrder cmp xs → (u v : X) → Has xs u → Has xs v → P u → (P v → ⊥) → Change P xs u v
  change P dec [] s u v hu hv p n = absurd hu
  change P dec (x ∷ xs) s u v (inl e) (inl f) p n = absurd (n (subst P f (subst P (sym e) p)))
  change P dec (x ∷ xs) s u v (inl e) (inr k) p n =
      let t = turn P dec x xs s (subst P (sym e) p) v k n in
      record { y = t.y; z = t.z; adjacent = t.adjacent; differ = inl (t.yes, t.nope); low = inl (subst (λ z. UpTo cmp z t.y) e t.low); high = inr t.high }
  change P dec (x ∷ xs) s u v (inr k) (inl f) p n =
      let t = turn (λ d. P d → ⊥) (λ d. elim (dec d) [ inl q ↦ inr (λ g. g q) | inr m ↦ inl m ]) x xs s (λ q. n (subst P f q)) u k (λ g. g p) in
      record {
        y = t.y;
        z = t.z;
        adjacent = t.adjacent;
        differ = inr (t.yes, elim (dec t.z) [ inl q ↦ q | inr m ↦ absurd (t.nope m) ]);
        low = inr (subst (λ z. UpTo cmp z t.y) f t.low);
        high = inl t.high;
      }
  change P dec (x ∷ []) s u v (inr k) (inr l) p n = absurd k
  change P dec (x ∷ w ∷ xs) s u v (inr k) (inr l) p n =
      let r = change P dec (w ∷ xs) s.1 u v k l p n in
      record { y = r.y; z = r.z; adjacent = inr r.adjacent; differ = r.differ; low = r.low; high = r.high }
