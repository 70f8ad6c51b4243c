-- Lists of batches, joined.
use Rattle.std.proofs.Common.{◌≡◌, ℕ, Bool, true, false, cond, List, [], ◌∷◌, ◌++◌, map, Option, Some, None, refl, sym, ap, ◌∙◌, ℤ}
use Rattle.std.specs.Option.{option_or}
use Rattle.std.specs.Ordering.{int_eq}
use Rattle.eos_touch.specs.declared.touch.Touch.{Touch}
use Rattle.eos_batch.specs.declared.batch.Batch.{Batch}
use Rattle.eos_fold.specs.declared.entry.Ending.{Ending}
use Rattle.eos_fold.specs.declared.entry.Ending.TheVariants.{Plain, Ended, Waiting}
use Rattle.eos_fold.specs.Batches.{DataBatch, data_batch, ending_of}
use Rattle.eos_fold.specs.steps.Endings.{with_ending}
use Rattle.eos_fold.specs.declared.mark.EndMark.{EndMark}
use Rattle.eos_fold.specs.declared.ends.Ends.{Ends}
use Rattle.eos_fold.specs.Ends.{is_data, placed, mark_for, mark_of, first_placed, last_placed, first_marker}
use Rattle.eos_fold.specs.Settling.{ending_by, resolved, settled, data_after, data_in}
use Rattle.eos_fold.specs.Tables.{AreEnds}
use Rattle.eos_fold.specs.Taken.{IsJoined}
use Rattle.eos_fold.specs.steps.Summaries.{only}
use Rattle.eos_fold.proofs.TableWrites.{same_id}

or-assoc : {X : Type 0} (a b c : Option X) → option_or (option_or a b) c ≡ option_or a (option_or b c)
or-assoc None b c = refl
or-assoc (Some x) b c = refl

or-none : {X : Type 0} (a : Option X) → option_or a None ≡ a
or-none None = refl
or-none (Some x) = refl

pub first_placed-append : (id : ℤ) (xs ys : List Batch) → first_placed id (xs ++ ys) ≡ option_or (first_placed id xs) (first_placed id ys)
first_placed-append id [] ys = refl
first_placed-append id (x ∷ xs) ys = ap (option_or (placed id x)) (first_placed-append id xs ys) ∙ sym (or-assoc (placed id x) (first_placed id xs) (first_placed id ys))

pub last_placed-append : (id : ℤ) (xs ys : List Batch) → last_placed id (xs ++ ys) ≡ option_or (last_placed id ys) (last_placed id xs)
last_placed-append id [] ys = sym (or-none (last_placed id ys))
last_placed-append id (x ∷ xs) ys = ap (λ (o : Option (ℕ × Touch)). option_or o (placed id x)) (last_placed-append id xs ys) ∙ or-assoc (last_placed id ys) (last_placed id xs) (placed id x)

pub first_marker-append : (id : ℤ) (xs ys : List Batch) → first_marker id (xs ++ ys) ≡ option_or (first_marker id xs) (first_marker id ys)
first_marker-append id [] ys = refl
first_marker-append id (x ∷ xs) ys = ap (option_or (mark_for id (mark_of x))) (first_marker-append id xs ys) ∙ sym (or-assoc (mark_for id (mark_of x)) (first_marker id xs) (first_marker id ys))

-- what is kept of an id, joined
pub ends_joined : (id : ℤ) (xs ys : List Batch) (by : ℕ) (before after all : Ends) → AreEnds id xs before → AreEnds id ys after → IsJoined by before after all → AreEnds id (xs ++ ys) all
ends_joined id xs ys by before after all b a j = record {
  first = j.first ∙ (ap (option_or before.first) a.first ∙ (ap (λ (o : Option (ℕ × Touch)). option_or o (first_placed id ys)) b.first ∙ sym (first_placed-append id xs ys)));
  last = j.last ∙ (ap (option_or after.last) b.last ∙ (ap (λ (o : Option (ℕ × Touch)). option_or o (last_placed id xs)) a.last ∙ sym (last_placed-append id xs ys)));
  marker = j.marker ∙ (ap (option_or before.marker) a.marker ∙ (ap (λ (o : Option EndMark). option_or o (first_marker id ys)) b.marker ∙ sym (first_marker-append id xs ys)));
}

-- an id of which the second part says nothing
pub ends_alone : (id : ℤ) (xs ys : List Batch) (before after : Ends) → AreEnds id xs before → AreEnds id ys after → after.first ≡ None → after.last ≡ None → after.marker ≡ None → AreEnds id (xs ++ ys) before
ends_alone id xs ys before after b a f l m = record {
  first = b.first ∙ (sym (or-none (first_placed id xs)) ∙ (ap (option_or (first_placed id xs)) (sym f ∙ a.first) ∙ sym (first_placed-append id xs ys)));
  last = b.last ∙ (ap (λ (o : Option (ℕ × Touch)). option_or o (last_placed id xs)) (sym l ∙ a.last) ∙ sym (last_placed-append id xs ys));
  marker = b.marker ∙ (sym (or-none (first_marker id xs)) ∙ (ap (option_or (first_marker id xs)) (sym m ∙ a.marker) ∙ sym (first_marker-append id xs ys)));
}

-- ---- items

-- what the first part settles, and what more of the log does
settled_on : (f g : ℤ → Option EndMark) (e : Ending) → resolved (λ id. option_or (f id) (g id)) e ≡ resolved g (resolved f e)
settled_on f g Plain = refl
settled_on f g (Ended e k) = refl
settled_on f g (Waiting id) = elim (f id) as (λ (o : Option EndMark). ending_by id (option_or o (g id)) ≡ resolved g (ending_by id o)) [ None ↦ refl | Some m ↦ refl ]

resolved_same : (f g : ℤ → Option EndMark) → ((id : ℤ) → f id ≡ g id) → (e : Ending) → resolved f e ≡ resolved g e
resolved_same f g h Plain = refl
resolved_same f g h (Ended e k) = refl
resolved_same f g h (Waiting p) = ap (ending_by p) (h p)

data_after-append : (b : Batch) (xs ys : List Batch) → data_after b (xs ++ ys) ≡ settled (λ id. first_marker id ys) (data_after b xs)
data_after-append b xs ys =
    ap (λ (e : Ending). with_ending e (data_batch b))
    (resolved_same (λ id. first_marker id (xs ++ ys)) (λ id. option_or (first_marker id xs) (first_marker id ys)) (λ id. first_marker-append id xs ys) (ending_of b)
    ∙ settled_on (λ id. first_marker id xs) (λ id. first_marker id ys) (ending_of b))

pub data_in-append : (xs ys : List Batch) → data_in (xs ++ ys) ≡ map (settled (λ id. first_marker id ys)) (data_in xs) ++ data_in ys
data_in-append [] ys = refl
data_in-append (x ∷ xs) ys =
    rw (data_after-append x xs ys, data_in-append xs ys) (elim (is_data x) as (λ b. cond b (settled (λ id. first_marker id ys) (data_after x xs) ∷ []) [] ++ (map (settled (λ id. first_marker id ys)) (data_in xs) ++ data_in ys) ≡ map (settled (λ id. first_marker id ys)) (cond b (data_after x xs ∷ []) [] ++ data_in xs) ++ data_in ys) [ true ↦ refl | false ↦ refl ])

pub map_same : (f g : DataBatch → DataBatch) → ((x : DataBatch) → f x ≡ g x) → (xs : List DataBatch) → map f xs ≡ map g xs
map_same f g h [] = refl
map_same f g h (x ∷ xs) = rw (h x, map_same f g h xs) refl

map_twice : (f g : DataBatch → DataBatch) (xs : List DataBatch) → map f (map g xs) ≡ map (λ x. f (g x)) xs
map_twice f g [] = refl
map_twice f g (x ∷ xs) = ap (λ (is : List DataBatch). f (g x) ∷ is) (map_twice f g xs)

-- one id more is settled
settled_more : (id : ℤ) (m : Option EndMark) (f g : ℤ → Option EndMark) → f id ≡ None → ((q : ℤ) → g q ≡ cond (int_eq id q) m (f q)) → (x : Ending) → resolved (only id m) (resolved f x) ≡ resolved g x
settled_more id m f g none more Plain = refl
settled_more id m f g none more (Ended e k) = refl
settled_more id m f g none more (Waiting p) = by_test (int_eq id p) refl
  where
    other : (o : Option EndMark) → int_eq id p ≡ false → resolved (only id m) (ending_by p o) ≡ ending_by p o
    other None e = ap (λ (t : Bool). ending_by p (cond t m None)) e
    other (Some n) e = refl

    by_test : (t : Bool) → int_eq id p ≡ t → resolved (only id m) (ending_by p (f p)) ≡ ending_by p (g p)
    by_test true e =
        let n : f p ≡ None = ap f (sym (same_id id p e)) ∙ none in
        ap (λ (o : Option EndMark). resolved (only id m) (ending_by p o)) n
        ∙ (ap (λ (t : Bool). ending_by p (cond t m None)) e ∙ ap (ending_by p) (sym (more p ∙ ap (λ (t : Bool). cond t m (f p)) e)))
    by_test false e = other (f p) e ∙ ap (ending_by p) (sym (more p ∙ ap (λ (t : Bool). cond t m (f p)) e))

pub items_more : (id : ℤ) (m : Option EndMark) (f g : ℤ → Option EndMark) → f id ≡ None → ((q : ℤ) → g q ≡ cond (int_eq id q) m (f q)) → (xs : List DataBatch) → map (settled (only id m)) (map (settled f) xs) ≡ map (settled g) xs
items_more id m f g none more xs =
    map_twice (settled (only id m)) (settled f) xs
    ∙ map_same (λ x. settled (only id m) (settled f x)) (settled g) (λ x. ap (λ (y : Ending). with_ending y x) (settled_more id m f g none more x.ending)) xs

-- no marker settles nothing
pub items_none : (f : ℤ → Option EndMark) → ((q : ℤ) → f q ≡ None) → (xs : List DataBatch) → map (settled f) xs ≡ xs
items_none f none [] = refl
items_none f none (x ∷ xs) = rw (items_none f none xs) (ap (λ (y : Ending). with_ending y x ∷ xs) (one x.ending))
  where
    one : (y : Ending) → resolved f y ≡ y
    one Plain = refl
    one (Ended e k) = refl
    one (Waiting p) = ap (ending_by p) (none p)

pub settled_same : (f g : ℤ → Option EndMark) → ((id : ℤ) → f id ≡ g id) → (x : DataBatch) → settled f x ≡ settled g x
settled_same f g h x = ap (λ (y : Ending). with_ending y x) (resolved_same f g h x.ending)
