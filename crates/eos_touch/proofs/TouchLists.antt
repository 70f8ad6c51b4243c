-- The touches of a list of batches with one batch more; each touch has records.
use Rattle.std.proofs.Common.{◌≡◌, ◌≤◌, Bool, true, false, cond, Option, Some, None, List, [], ◌∷◌, ◌++◌, length, refl, ap, ◌∙◌, append_assoc, ℤ, pos}
use Rattle.std.specs.Prelude.{if◌then◌else◌, int_lt}
use Rattle.std.specs.Option.{option_map, option_or}
use Rattle.std.specs.Ordering.{int_eq, int_cmp, is_eq}
use Rattle.std.specs.List.{All}
use Rattle.std.proofs.lemmas.List.Elements.{All-nil, All-cons}
use Rattle.eos_batch.specs.declared.batch.Batch.{Batch}
use Rattle.eos_batch.specs.declared.marker.Marker.{Marker}
use Rattle.eos_batch.specs.Marker.{marker_of}
use Rattle.eos_batch.specs.Attributes.{is_control, is_transactional}
use Rattle.eos_touch.specs.declared.touch.Touch.{Touch}
use Rattle.eos_touch.specs.declared.touch.Touch.TheVariants.{Data, End}
use Rattle.eos_touch.specs.Neighbours.{HasRecords}
use Rattle.eos_touch.specs.Touches.{data_touch, end_touch, touch_of}
use Rattle.eos_touch.specs.Touches.{touch_in, touches_of, last_of, last_touch}

pub append-nil : {X : Type 0} (xs : List X) → xs ++ [] ≡ xs
append-nil [] = refl
append-nil (x ∷ xs) = ap (λ ys. x ∷ ys) (append-nil xs)

pub last_of-push : (ts : List Touch) (t : Touch) → last_of (ts ++ t ∷ []) ≡ Some t
last_of-push [] t = refl
last_of-push (s ∷ ts) t = ap (λ (o : Option Touch). option_or o (Some s)) (last_of-push ts t)

pub touches_of-append : (id : ℤ) (xs ys : List Batch) → touches_of id (xs ++ ys) ≡ touches_of id xs ++ touches_of id ys
touches_of-append id [] ys = refl
touches_of-append id (b ∷ bs) ys = rw (touches_of-append id bs ys) (simp append_assoc)

pub touches_of-push : (id : ℤ) (bs : List Batch) (b : Batch) → touches_of id (bs ++ b ∷ []) ≡ touches_of id bs ++ touch_in id (touch_of b)
touches_of-push id bs b = touches_of-append id bs (b ∷ []) ∙ ap (λ (ts : List Touch). touches_of id bs ++ ts) (append-nil (touch_in id (touch_of b)))

-- a batch that says nothing
pub last_touch-push_none : (id : ℤ) (bs : List Batch) (b : Batch) → touch_of b ≡ None → last_touch id (bs ++ b ∷ []) ≡ last_touch id bs
last_touch-push_none id bs b e =
    ap last_of (touches_of-push id bs b ∙ (ap (λ (o : Option (ℤ × Touch)). touches_of id bs ++ touch_in id o) e ∙ append-nil (touches_of id bs)))

-- a batch that says something of an id
pub last_touch-push : (id : ℤ) (bs : List Batch) (b : Batch) (p : ℤ) (t : Touch) → touch_of b ≡ Some (p, t)
    → last_touch id (bs ++ b ∷ []) ≡ cond (int_eq p id) (Some t) (last_touch id bs)
last_touch-push id bs b p t e =
    ap last_of (touches_of-push id bs b ∙ ap (λ (o : Option (ℤ × Touch)). touches_of id bs ++ touch_in id o) e) ∙ by_test (int_eq p id)
  where
    by_test : (test : Bool) → last_of (touches_of id bs ++ cond test (t ∷ []) []) ≡ cond test (Some t) (last_touch id bs)
    by_test true = last_of-push (touches_of id bs) t
    by_test false = ap last_of (append-nil (touches_of id bs))

-- the table's test of its keys
pub is_eq-int_cmp : (p q : ℤ) → is_eq (int_cmp p q) ≡ int_eq p q
is_eq-int_cmp p q = refl

-- ---- each touch has records

one_or_none : (p id : ℤ) (t : Touch) → HasRecords t → All HasRecords (touch_in id (Some (p, t)))
one_or_none p id t h = by_test (int_eq p id)
  where
    by_test : (test : Bool) → All HasRecords (if test then t ∷ [] else [])
    by_test true = All-cons HasRecords t [] h (All-nil HasRecords)
    by_test false = All-nil HasRecords

data_has_records : (id : ℤ) (b : Batch) → 1 ≤ length b.records → All HasRecords (touch_in id (data_touch b))
data_has_records id b some = by_test (int_lt b.producer (pos 0))
  where
    by_test : (test : Bool) → All HasRecords (touch_in id (if test then None else Some (b.producer, Data b.epoch (is_transactional b.attributes) b.sequence (length b.records))))
    by_test true = All-nil HasRecords
    by_test false = one_or_none b.producer id (Data b.epoch (is_transactional b.attributes) b.sequence (length b.records)) some

end_has_records : (id : ℤ) (o : Option Marker) → All HasRecords (touch_in id (option_map end_touch o))
end_has_records id None = All-nil HasRecords
end_has_records id (Some m) = one_or_none m.producer id (End m.epoch m.kind) tt

pub touch_has_records : (id : ℤ) (b : Batch) → 1 ≤ length b.records → All HasRecords (touch_in id (touch_of b))
touch_has_records id b some = by_test (is_control b.attributes)
  where
    by_test : (test : Bool) → All HasRecords (touch_in id (if test then option_map end_touch (marker_of b) else data_touch b))
    by_test true = end_has_records id (marker_of b)
    by_test false = data_has_records id b some
