-- What the batches of a log say of each producer id, and that it is what the machine says.
use Rattle.std.proofs.Common.{◌≡◌, ℕ, ◌+◌, ◌-◌, ◌<◌, ◌==◌, ℤ, pos, negsuc, Bool, true, false, List, [], ◌∷◌, ◌++◌, map, Option, Some, None, refl, sym, ap, subst, ◌∙◌, arith, inl, inr, ◌⊎◌}
use Rattle.std.specs.Prelude.{int_lt, if◌then◌else◌}
use Rattle.std.specs.Option.{option_or}
use Rattle.std.specs.Ordering.{int_eq}
use Rattle.std.specs.List.{cons_option}
use Rattle.std.proofs.lemmas.Int.{ints}
use Rattle.std.proofs.lemmas.Bool.{cases_lt, eqb-true, eqb-false}
use Rattle.eos_batch.specs.declared.batch.Batch.{Batch}
use Rattle.eos_batch.specs.declared.marker.Kind.{Kind}
use Rattle.eos_batch.specs.declared.marker.Kind.TheVariants.{Commit, Abort}
use Rattle.eos_batch.specs.declared.marker.Marker.{Marker as EndMarker}
use Rattle.eos_batch.specs.Marker.{marker_of}
use Rattle.eos_wire.specs.Numbers.{i16_text, i32_text, i16_at, i32_at}
use Rattle.eos_touch.specs.declared.touch.Touch.{Touch}
use Rattle.eos_touch.specs.declared.touch.Touch.TheVariants.{Data, End}
use Rattle.eos_touch.specs.Neighbours.{EachAfter, Accepts}
use Rattle.eos_touch.specs.Touches.{touch_of}
use Rattle.eos_touch.specs.Touches.{touch_in, touches_of, last_of, last_touch}
use Rattle.eos_fold.specs.Standing.{IsOpen}
use Rattle.eos_machine.specs.declared.config.Config.{Config}
use Rattle.eos_machine.specs.LogIndexes.{is_sequenced}
use Rattle.eos_machine.specs.declared.item.Item.{Item}
use Rattle.eos_machine.specs.declared.item.Item.TheVariants.{Fed, State, Output, Offset, Marker}
use Rattle.eos_machine.specs.World.{World, log_at}
use Rattle.eos_machine.specs.Application.{Mark, Decision, Matched, Never}
use Rattle.eos_machine.specs.Application as app
use Rattle.eos_machine.specs.Logs.{marks_of}
use Rattle.eos_machine.specs.Rest as rest
use Rattle.eos_machine.specs.Rest.{producer_id, NeighboursFit}
use Rattle.eos_machine.proofs.TouchRules as marks
use Rattle.eos_simulate.proofs.Singles.{item_batch, singles_from}

-- ---- one batch

abbrev pub end_marker : ℕ → ℕ → Kind → EndMarker
end_marker a e k = record { producer = producer_id a; epoch = pos e; kind = k; coordinator_epoch = pos 0 }

abbrev pub item_touch : Item → Option (ℤ × Touch)
item_touch (Fed n) = None
item_touch (State a x n) = None
item_touch (Output a e s x v n) = Some (producer_id a, Data (pos e) true (pos s) 1)
item_touch (Offset a e q v n) = Some (producer_id a, Data (pos e) true (negsuc 0) 1)
item_touch (Marker a e k n) = Some (producer_id a, End (pos e) k)

abbrev pub item_marker : Item → Option EndMarker
item_marker (Fed n) = None
item_marker (State a x n) = None
item_marker (Output a e s x v n) = None
item_marker (Offset a e q v n) = None
item_marker (Marker a e k n) = Some (end_marker a e k)

pub marker_is : (c : Config) (o : ℕ) (x : Item) → marker_of (item_batch c o x) ≡ item_marker x
unfolding i16_text i32_text i16_at i32_at
marker_is c o (Fed n) = refl
marker_is c o (State a x n) = refl
marker_is c o (Output a e s x v n) = refl
marker_is c o (Offset a e q v n) = refl
marker_is c o (Marker a e Commit n) = refl
marker_is c o (Marker a e Abort n) = refl

no_plain : (a : ℕ) → int_lt (producer_id a) (pos 0) ≡ false
no_plain a = grind (arith, ints)

pub touch_is : (c : Config) (o : ℕ) (x : Item) → touch_of (item_batch c o x) ≡ item_touch x
unfolding i16_text i32_text i16_at i32_at
touch_is c o (Fed n) = refl
touch_is c o (State a x n) = refl
touch_is c o (Output a e s x v n) = ap (λ (b : Bool). if b then None else Some (producer_id a, Data (pos e) true (pos s) 1)) (no_plain a)
touch_is c o (Offset a e q v n) = ap (λ (b : Bool). if b then None else Some (producer_id a, Data (pos e) true (negsuc 0) 1)) (no_plain a)
touch_is c o (Marker a e Commit n) = refl
touch_is c o (Marker a e Abort n) = refl

-- ---- the touches of an application

pub same_producer : (a b : ℕ) → int_eq (producer_id b) (producer_id a) ≡ (b == a)
same_producer a b = elim (b == a) as (λ t. (b == a) ≡ t → int_eq (producer_id b) (producer_id a) ≡ t) [
  | true ↦ λ h. equal b a (eqb-true b a h)
  | false ↦ λ h. unequal b a (eqb-false b a h)
] refl
  where
    equal : (b a : ℕ) → b ≡ a → int_eq (producer_id b) (producer_id a) ≡ true
    equal b a e = grind (arith, ints, e)

    unequal : (b a : ℕ) → (b ≡ a → ⊥) → int_eq (producer_id b) (producer_id a) ≡ false
    unequal b a d = grind (arith, ints, d)

in_touches : (a b : ℕ) (t : Touch) (xs ys : List Touch) → xs ≡ ys → touch_in (producer_id a) (Some (producer_id b, t)) ++ xs ≡ cons_option (if b == a then Some t else None) ys
in_touches a b t xs ys e = ap (λ (q : Bool). (if q then t ∷ [] else []) ++ xs) (same_producer a b) ∙ by (b == a)
  where
    by : (q : Bool) → (if q then t ∷ [] else []) ++ xs ≡ cons_option (if q then Some t else None) ys
    by true = ap (λ l. t ∷ l) e
    by false = e

pub touches_at : (c : Config) (a o : ℕ) (xs : List Item) → touches_of (producer_id a) (singles_from c o xs) ≡ rest.touches_of a xs
touches_at c a o [] = refl
touches_at c a o (x ∷ xs) = ap (λ t. touch_in (producer_id a) t ++ touches_of (producer_id a) (singles_from c (o + 1) xs)) (touch_is c o x) ∙ by x (touches_at c a (o + 1) xs)
  where
    by : (x : Item) → touches_of (producer_id a) (singles_from c (o + 1) xs) ≡ rest.touches_of a xs
        → touch_in (producer_id a) (item_touch x) ++ touches_of (producer_id a) (singles_from c (o + 1) xs) ≡ rest.touches_of a (x ∷ xs)
    by (Fed n) h = h
    by (State b y n) h = h
    by (Output b e s y v n) h = in_touches a b _ _ _ h
    by (Offset b e q v n) h = in_touches a b _ _ _ h
    by (Marker b e k n) h = in_touches a b _ _ _ h

-- ---- other producer ids have none

no_touch : (id : ℤ) (b : ℕ) (t : Touch) (xs : List Touch) → int_eq (producer_id b) id ≡ false → xs ≡ [] → touch_in id (Some (producer_id b, t)) ++ xs ≡ []
no_touch id b t xs h e = rw h e

none_at : (c : Config) (id : ℤ) (o : ℕ) (xs : List Item) → ((a : ℕ) → int_eq (producer_id a) id ≡ false) → touches_of id (singles_from c o xs) ≡ []
none_at c id o [] h = refl
none_at c id o (x ∷ xs) h = ap (λ t. touch_in id t ++ touches_of id (singles_from c (o + 1) xs)) (touch_is c o x) ∙ by x (none_at c id (o + 1) xs h)
  where
    by : (x : Item) → touches_of id (singles_from c (o + 1) xs) ≡ [] → touch_in id (item_touch x) ++ touches_of id (singles_from c (o + 1) xs) ≡ []
    by (Fed n) e = e
    by (State b y n) e = e
    by (Output b f s y v n) e = no_touch id b _ _ (h b) e
    by (Offset b f q v n) e = no_touch id b _ _ (h b) e
    by (Marker b f k n) e = no_touch id b _ _ (h b) e

app_or : (id : ℤ) → ((a : ℕ) × (id ≡ producer_id a)) ⊎ ((a : ℕ) → int_eq (producer_id a) id ≡ false)
app_or (negsuc n) = inr (λ a. refl)
app_or (pos n) = elim (cases_lt n 1000) [
  | inl l ↦ inr (λ a. below a n l)
  | inr l ↦ let e : n ≡ 1000 + (n - 1000) = omega (arith, l) in inl (n - 1000, ap pos e)
]
  where
    below : (a n : ℕ) → n < 1000 → int_eq (producer_id a) (pos n) ≡ false
    below a n l = grind (arith, ints, l)

-- ---- what the machine promises of each application holds of each producer id

pub each_fits : (c : Config) (w : World) (p : ℕ) (id : ℤ) → NeighboursFit c w → EachAfter (Accepts (is_sequenced c p)) None (touches_of id (singles_from c 0 (log_at w p)))
each_fits c w p id h = elim (app_or id) [
  | inl a ↦ subst (EachAfter (Accepts (is_sequenced c p)) None) (sym (ap (λ i. touches_of i (singles_from c 0 (log_at w p))) a.1 ∙ touches_at c a.0 0 (log_at w p))) (h a.0 p)
  | inr n ↦ subst (EachAfter (Accepts (is_sequenced c p)) None) (sym (none_at c id 0 (log_at w p) n)) tt
]

-- ---- at rest no producer id's last touch is data of a transaction

or_or : (o : Option Touch) (t u : Touch) → IsOpen (option_or (option_or o (Some t)) (Some u)) → IsOpen (option_or o (Some t))
or_or None t u h = h
or_or (Some x) t u h = h

ends_closed : (ds : List Decision) (p : ℕ) (ts : List Mark) → Matched Never ds p ts → IsOpen (last_of (map marks.touch_of ts)) → ⊥
ends_closed ds p [] m h = h
ends_closed ds p (app.Batch e q ∷ []) m h = m.0
ends_closed ds p (app.End e k ∷ []) m h = absurd cc
ends_closed ds p (app.Batch e q ∷ t ∷ ts) m h = ends_closed ds p (t ∷ ts) m.1 (or_or (last_of (map marks.touch_of ts)) (marks.touch_of t) _ h)
ends_closed ds p (app.End e k ∷ t ∷ ts) m h = ends_closed ds p (t ∷ ts) m.1 (or_or (last_of (map marks.touch_of ts)) (marks.touch_of t) _ h)

pub none_open : (c : Config) (xs : List Item) (id : ℤ) (p : ℕ) (ds : ℕ → List Decision) → ((a : ℕ) → Matched Never (ds a) p (marks_of a xs)) → IsOpen (last_touch id (singles_from c 0 xs)) → ⊥
none_open c xs id p ds m h = elim (app_or id) [
  | inl a ↦ ends_closed (ds a.0) p (marks_of a.0 xs) (m a.0)
      (subst (λ ts. IsOpen (last_of ts)) (ap (λ i. touches_of i (singles_from c 0 xs)) a.1 ∙ (touches_at c a.0 0 xs ∙ marks.touches_are a.0 xs)) h)
  | inr n ↦ subst (λ ts. IsOpen (last_of ts)) (none_at c id 0 xs n) h
]
