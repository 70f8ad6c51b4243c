-- The faults of pairs of touches in a whole log: as a summary settles them, and by the touch before each.
use Rattle.std.proofs.Common.{◌≡◌, ℕ, ◌⊎◌, inl, inr, Bool, true, false, cond, List, [], ◌∷◌, ◌++◌, Option, Some, None, refl, sym, ap, subst, ◌∙◌, append_assoc, ℤ}
use Rattle.std.specs.Option.{option_map, option_or}
use Rattle.std.specs.Ordering.{int_eq}
use Rattle.std.proofs.lemmas.Bool.Decides.{Decides-int_eq}
use Rattle.eos_batch.specs.declared.batch.Batch.{Batch}
use Rattle.eos_touch.specs.declared.touch.Touch.{Touch}
use Rattle.eos_touch.specs.declared.pair.PairFault.{PairFault}
use Rattle.eos_touch.specs.Pair.{stands}
use Rattle.eos_fold.specs.Ends.{placed_in, placed, first_placed, last_placed}
use Rattle.eos_fold.specs.Faults.{StandsAt, StandsAfter}
use Rattle.eos_fold.specs.BatchesWhole.{StandsFirst, StandsInWhole, IsLeftOpen}
use Rattle.eos_fold.proofs.BatchLists.{last_placed-append}
use Rattle.eos_batch.specs.Offsets.{offset_of}
use Rattle.eos_touch.specs.Touches.{touch_of, touch_in, touches_of, last_of, last_touch}
use Rattle.eos_fold.specs.Standing.{StandsAtTouch, IsOpen}
use Rattle.eos_touch.proofs.TouchLists.{append-nil}

-- ---- the last touch

or-none : {X : Type 0} (a : Option X) → option_or a None ≡ a
or-none None = refl
or-none (Some x) = refl

or-assoc : {X : Type 0} (a b c : Option X) → option_or (option_or a b) c ≡ option_or a (option_or b c)
or-assoc None b c = refl
or-assoc (Some x) b c = refl

last_of-append : (ts us : List Touch) → last_of (ts ++ us) ≡ option_or (last_of us) (last_of ts)
last_of-append [] us = sym (or-none (last_of us))
last_of-append (t ∷ ts) us = ap (λ (o : Option Touch). option_or o (Some t)) (last_of-append ts us) ∙ or-assoc (last_of us) (last_of ts) (Some t)

-- a touch without its offset
abbrev pub bare : Option (ℕ × Touch) → Option Touch
bare o = option_map (λ p. p.1) o

bare-or : (a b : Option (ℕ × Touch)) → bare (option_or a b) ≡ option_or (bare a) (bare b)
bare-or None b = refl
bare-or (Some x) b = refl

one_touch : (id : ℤ) (offset : ℕ) (o : Option (ℤ × Touch)) → bare (placed_in id offset o) ≡ last_of (touch_in id o)
one_touch id offset None = refl
one_touch id offset (Some x) = by_test (int_eq x.0 id)
  where
    by_test : (b : Bool) → bare (cond b (Some (offset, x.1)) None) ≡ last_of (cond b (x.1 ∷ []) [])
    by_test true = refl
    by_test false = refl

pub same_last : (id : ℤ) (bs : List Batch) → bare (last_placed id bs) ≡ last_touch id bs
same_last id [] = refl
same_last id (b ∷ bs) =
    bare-or (last_placed id bs) (placed id b)
    ∙ (ap (λ (o : Option Touch). option_or o (bare (placed id b))) (same_last id bs)
    ∙ (ap (option_or (last_touch id bs)) (one_touch id (offset_of b) (touch_of b)) ∙ sym (last_of-append (touch_in id (touch_of b)) (touches_of id bs))))

left_open : (o : Option (ℕ × Touch)) → IsLeftOpen o → IsOpen (bare o)
left_open None h = h
left_open (Some t) h = h

is_left : (o : Option (ℕ × Touch)) → IsOpen (bare o) → IsLeftOpen o
is_left None h = h
is_left (Some t) h = h

pub open_to : (id : ℤ) (bs : List Batch) → IsLeftOpen (last_placed id bs) → IsOpen (last_touch id bs)
open_to id bs h = subst IsOpen (same_last id bs) (left_open (last_placed id bs) h)

pub open_from : (id : ℤ) (bs : List Batch) → IsOpen (last_touch id bs) → IsLeftOpen (last_placed id bs)
open_from id bs h = is_left (last_placed id bs) (subst IsOpen (sym (same_last id bs)) h)

-- ---- each touch after the one before it, and the first after nothing

module _ (s : Bool) (id : ℤ) (o : ℕ) (k : PairFault) where
  abbrev Judge : Option (ℕ × Touch) → Option (ℕ × Touch) → Type 0
  Judge before None = ⊥
  Judge before (Some t) = (o ≡ t.0) × (stands s (bare before) t.1 k ≡ true)

  abbrev Along : Option (ℕ × Touch) → List Batch → Type 0
  Along before [] = ⊥
  Along before (h ∷ hs) = Judge before (placed id h) ⊎ Along (option_or (placed id h) before) hs

  judge_to : (p : ℕ × Touch) (t : Option (ℕ × Touch)) → StandsAt s (Some p) t o k → Judge (Some p) t
  judge_to p None h = h
  judge_to p (Some t) h = h

  judge_from : (p : ℕ × Touch) (t : Option (ℕ × Touch)) → Judge (Some p) t → StandsAt s (Some p) t o k
  judge_from p None h = h
  judge_from p (Some t) h = h

  or_some : (t : Option (ℕ × Touch)) (p : ℕ × Touch) → (q : ℕ × Touch) × (option_or t (Some p) ≡ Some q)
  or_some None p = (p, refl)
  or_some (Some t) p = (t, refl)

  some_to : (p : ℕ × Touch) (hs : List Batch) → StandsAfter s id (Some p) hs o k → Along (Some p) hs
  some_to p [] h = h
  some_to p (x ∷ xs) (inl h) = inl (judge_to p (placed id x) h)
  some_to p (x ∷ xs) (inr h) =
      let q = or_some (placed id x) p in
      inr (subst (λ (b : Option (ℕ × Touch)). Along b xs) (sym q.1) (some_to q.0 xs (subst (λ (b : Option (ℕ × Touch)). StandsAfter s id b xs o k) q.1 h)))

  some_from : (p : ℕ × Touch) (hs : List Batch) → Along (Some p) hs → StandsAfter s id (Some p) hs o k
  some_from p [] h = h
  some_from p (x ∷ xs) (inl h) = inl (judge_from p (placed id x) h)
  some_from p (x ∷ xs) (inr h) =
      let q = or_some (placed id x) p in
      inr (subst (λ (b : Option (ℕ × Touch)). StandsAfter s id b xs o k) (sym q.1) (some_from q.0 xs (subst (λ (b : Option (ℕ × Touch)). Along b xs) q.1 h)))

  step_to : (t : Option (ℕ × Touch)) (xs : List Batch) → (StandsAfter s id None xs o k ⊎ StandsFirst s (first_placed id xs) o k → Along None xs)
      → (StandsAt s None t o k ⊎ StandsAfter s id (option_or t None) xs o k) ⊎ StandsFirst s (option_or t (first_placed id xs)) o k → Judge None t ⊎ Along (option_or t None) xs
  step_to None xs ih (inl (inl h)) = absurd h
  step_to None xs ih (inl (inr h)) = inr (ih (inl h))
  step_to None xs ih (inr h) = inr (ih (inr h))
  step_to (Some u) xs ih (inl (inl h)) = absurd h
  step_to (Some u) xs ih (inl (inr h)) = inr (some_to u xs h)
  step_to (Some u) xs ih (inr h) = inl h

  step_from : (t : Option (ℕ × Touch)) (xs : List Batch) → (Along None xs → StandsAfter s id None xs o k ⊎ StandsFirst s (first_placed id xs) o k)
      → Judge None t ⊎ Along (option_or t None) xs → (StandsAt s None t o k ⊎ StandsAfter s id (option_or t None) xs o k) ⊎ StandsFirst s (option_or t (first_placed id xs)) o k
  step_from None xs ih (inl h) = absurd h
  step_from None xs ih (inr h) = elim (ih h) [ inl a ↦ inl (inr a) | inr b ↦ inr b ]
  step_from (Some u) xs ih (inl h) = inr h
  step_from (Some u) xs ih (inr h) = inl (inr (some_from u xs h))

  whole_to : (hs : List Batch) → StandsInWhole s hs o id k → Along None hs
  whole_to [] (inl h) = h
  whole_to [] (inr h) = h
  whole_to (x ∷ xs) h = step_to (placed id x) xs (whole_to xs) h

  whole_from : (hs : List Batch) → Along None hs → StandsInWhole s hs o id k
  whole_from [] h = absurd h
  whole_from (x ∷ xs) h = step_from (placed id x) xs (whole_from xs) h

  -- ---- the same among the batches

  record Touches (x : Option (ℤ × Touch)) (offset : ℕ) (before : Option Touch) : Type 0 where
    next : Touch
    is : x ≡ Some (id, next)
    at : o ≡ offset
    wrong : stands s before next k ≡ true

  found : (x : Option (ℤ × Touch)) (offset : ℕ) (before : Option (ℕ × Touch)) → Judge before (placed_in id offset x) → Touches x offset (bare before)
  found None offset before h = absurd h
  found (Some x) offset before h = by_test (int_eq x.0 id) refl h
    where
      by_test : (b : Bool) → int_eq x.0 id ≡ b → Judge before (cond b (Some (offset, x.1)) None) → Touches (Some x) offset (bare before)
      by_test true e j = record { next = x.1; is = ap (λ (i : ℤ). Some (i, x.1)) ((Decides-int_eq x.0 id).0 e); at = j.0; wrong = j.1 }
      by_test false e j = absurd j

  here : (x : Option (ℤ × Touch)) (offset : ℕ) (before : Option (ℕ × Touch)) (next : Touch) → x ≡ Some (id, next) → o ≡ offset → stands s (bare before) next k ≡ true → Judge before (placed_in id offset x)
  here x offset before next e at w =
      subst (λ (y : Option (ℤ × Touch)). Judge before (placed_in id offset y)) (sym e)
      (subst (λ (b : Bool). Judge before (cond b (Some (offset, next)) None)) (sym ((Decides-int_eq id id).1 refl)) (at, w))

  last_more : (front : List Batch) (b : Batch) → option_or (placed id b) (last_placed id front) ≡ last_placed id (front ++ b ∷ [])
  last_more front b = sym (last_placed-append id front (b ∷ []))

  to_touch : (front bs : List Batch) → Along (last_placed id front) bs → StandsAtTouch s (front ++ bs) o k id
  to_touch front [] h = absurd h
  to_touch front (b ∷ bs) (inl h) =
      let t = found (touch_of b) (offset_of b) (last_placed id front) h in
      record { before = front; here = b; after = bs; next = t.next; parts = refl; at = t.at; touch = t.is; wrong = subst (λ (p : Option Touch). stands s p t.next k ≡ true) (same_last id front) t.wrong }
  to_touch front (b ∷ bs) (inr h) =
      subst (λ (all : List Batch). StandsAtTouch s all o k id) (append_assoc front (b ∷ []) bs)
      (to_touch (front ++ b ∷ []) bs (subst (λ (p : Option (ℕ × Touch)). Along p bs) (last_more front b) h))

  from_touch : (front before : List Batch) (b : Batch) (after : List Batch) (next : Touch) → touch_of b ≡ Some (id, next) → o ≡ offset_of b → stands s (last_touch id (front ++ before)) next k ≡ true → Along (last_placed id front) (before ++ b ∷ after)
  from_touch front [] b after next e at w =
      let last : last_touch id (front ++ []) ≡ bare (last_placed id front) = ap (last_touch id) (append-nil front) ∙ sym (same_last id front) in
      inl (here (touch_of b) (offset_of b) (last_placed id front) next e at (subst (λ (p : Option Touch). stands s p next k ≡ true) last w))
  from_touch front (x ∷ xs) b after next e at w =
      inr (subst (λ (p : Option (ℕ × Touch)). Along p (xs ++ b ∷ after)) (sym (last_more front x))
      (from_touch (front ++ x ∷ []) xs b after next e at (subst (λ (all : List Batch). stands s (last_touch id all) next k ≡ true) (sym (append_assoc front (x ∷ []) xs)) w)))

  pub pairs_to : (bs : List Batch) → StandsInWhole s bs o id k → StandsAtTouch s bs o k id
  pairs_to bs h = to_touch [] bs (whole_to bs h)

  pub pairs_from : (bs : List Batch) → StandsAtTouch s bs o k id → StandsInWhole s bs o id k
  pairs_from bs h = subst (λ (all : List Batch). StandsInWhole s all o id k) (sym h.parts) (whole_from (h.before ++ h.here ∷ h.after) (from_touch [] h.before h.here h.after h.next h.touch h.at h.wrong))
