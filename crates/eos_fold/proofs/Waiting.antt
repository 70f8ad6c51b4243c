-- The places of what waits, in a list that grows and is settled.
use Rattle.std.proofs.Common.{◌≡◌, ℕ, ◌+◌, ◌<◌, ◌≤◌, Bool, true, false, cond, List, [], ◌∷◌, ◌++◌, length, map, Option, Some, None, refl, sym, ap, ◌∙◌, append_assoc, arith, ℤ}
use Rattle.std.specs.Prelude.{is_some}
use Rattle.std.specs.List.{All, AllByRecursion}
use Rattle.std.proofs.lemmas.List.{length-append}
use Rattle.std.proofs.lemmas.List.Elements.{All-from_recursion}
use Rattle.std.specs.Ordering.{int_eq}
use Rattle.std.proofs.lemmas.Bool.Decides.{Decides-int_eq}
use Rattle.eos_fold.specs.declared.entry.Ending.{Ending}
use Rattle.eos_fold.specs.declared.entry.Ending.TheVariants.{Plain, Ended, Waiting}
use Rattle.eos_fold.specs.Batches.{DataBatch}
use Rattle.eos_fold.specs.declared.mark.EndMark.{EndMark}
use Rattle.eos_fold.specs.Settling.{ended, ending_by, resolved, settled, waits, waiting_from, waiting_in}
use Rattle.eos_fold.specs.steps.Endings.{with_ending, set_ending, set_endings}
use Rattle.eos_fold.specs.steps.Summaries.{only}

pub waiting_from-append : (at : ℕ) (id : ℤ) (xs ys : List DataBatch) → waiting_from at id (xs ++ ys) ≡ waiting_from at id xs ++ waiting_from (at + length xs) id ys
waiting_from-append at id [] ys = ap (λ n. waiting_from n id ys) (omega arith)
waiting_from-append at id (x ∷ xs) ys =
    let e : at + 1 + length xs ≡ at + length (x ∷ xs) = omega arith in
    rw (waiting_from-append (at + 1) id xs ys, e) (simp append_assoc)

pub waiting_from-shift : (at by : ℕ) (id : ℤ) (xs : List DataBatch) → map (λ p. p + by) (waiting_from at id xs) ≡ waiting_from (at + by) id xs
waiting_from-shift at by id [] = refl
waiting_from-shift at by id (x ∷ xs) =
    let ih : map (λ p. p + by) (waiting_from (at + 1) id xs) ≡ waiting_from (at + by + 1) id xs = waiting_from-shift (at + 1) by id xs ∙ ap (λ n. waiting_from n id xs) (omega arith) in
    elim (waits id x.ending) as (λ t. map (λ p. p + by) (cond t (at ∷ []) [] ++ waiting_from (at + 1) id xs) ≡ cond t ((at + by) ∷ []) [] ++ waiting_from (at + by + 1) id xs) [ true ↦ ap (λ (ps : List ℕ). (at + by) ∷ ps) ih | false ↦ ih ]

same_id : (p q : ℤ) → int_eq p q ≡ true → p ≡ q
same_id p q t = (Decides-int_eq p q).0 t

waits-by : (id p : ℤ) (o : Option EndMark) → waits id (ending_by p o) ≡ cond (is_some o) false (int_eq id p)
waits-by id p None = refl
waits-by id p (Some m) = refl

cond-false : (b : Bool) → cond b false false ≡ false
cond-false true = refl
cond-false false = refl

waits-resolved : (id : ℤ) (markers : ℤ → Option EndMark) (f : Ending) → waits id (resolved markers f) ≡ cond (is_some (markers id)) false (waits id f)
waits-resolved id markers Plain = sym (cond-false (is_some (markers id)))
waits-resolved id markers (Ended e k) = sym (cond-false (is_some (markers id)))
waits-resolved id markers (Waiting p) = waits-by id p (markers p) ∙ by_test (int_eq id p) refl
  where
    by_test : (t : Bool) → int_eq id p ≡ t → cond (is_some (markers p)) false (int_eq id p) ≡ cond (is_some (markers id)) false (int_eq id p)
    by_test true e = ap (λ (q : ℤ). cond (is_some (markers q)) false (int_eq id p)) (sym (same_id id p e))
    by_test false e = rw e (cond-false (is_some (markers p)) ∙ sym (cond-false (is_some (markers id))))

cond-same : (b : Bool) (ns : List ℕ) → ns ≡ cond b ns ns
cond-same true ns = refl
cond-same false ns = refl

pub waiting_from-settled : (at : ℕ) (id : ℤ) (markers : ℤ → Option EndMark) (xs : List DataBatch) → waiting_from at id (map (settled markers) xs) ≡ cond (is_some (markers id)) [] (waiting_from at id xs)
waiting_from-settled at id markers [] = cond-same (is_some (markers id)) []
waiting_from-settled at id markers (x ∷ xs) =
    rw (waits-resolved id markers x.ending, waiting_from-settled (at + 1) id markers xs)
    (elim (is_some (markers id)) as (λ b. cond (cond b false (waits id x.ending)) (at ∷ []) [] ++ cond b [] (waiting_from (at + 1) id xs) ≡ cond b [] (cond (waits id x.ending) (at ∷ []) [] ++ waiting_from (at + 1) id xs)) [ true ↦ refl | false ↦ refl ])

-- places are inside
places_below : (at n : ℕ) (id : ℤ) (xs : List DataBatch) → at + length xs ≤ n → AllByRecursion (λ p. p < n) (waiting_from at id xs)
places_below at n id [] h = tt
places_below at n id (x ∷ xs) h =
    let ih = places_below (at + 1) n id xs (omega arith) in
    elim (waits id x.ending) as (λ t. AllByRecursion (λ p. p < n) (cond t (at ∷ []) [] ++ waiting_from (at + 1) id xs)) [ true ↦ (omega arith, ih) | false ↦ ih ]

pub all_below : (n : ℕ) (id : ℤ) (xs : List DataBatch) → length xs ≤ n → All (λ p. p < n) (waiting_in id xs)
all_below n id xs h = All-from_recursion (λ p. p < n) (waiting_in id xs) (places_below 0 n id xs (omega arith))

-- ---- fates at places

set_ending_here : (f : Ending) (done : List DataBatch) (x : DataBatch) (xs : List DataBatch) → set_ending f (length done) (done ++ x ∷ xs) ≡ done ++ with_ending f x ∷ xs
set_ending_here f [] x xs = refl
set_ending_here f (d ∷ ds) x xs = ap (λ is. d ∷ is) (set_ending_here f ds x xs)

settled_waits : (id : ℤ) (m : EndMark) (f : Ending) → waits id f ≡ true → resolved (only id (Some m)) f ≡ ended m
settled_waits id m Plain w = absurd cc
settled_waits id m (Ended e k) w = absurd cc
settled_waits id m (Waiting p) w = ap (λ (t : Bool). ending_by p (cond t (Some m) None)) w

settled_other : (id : ℤ) (m : EndMark) (f : Ending) → waits id f ≡ false → resolved (only id (Some m)) f ≡ f
settled_other id m Plain w = refl
settled_other id m (Ended e k) w = refl
settled_other id m (Waiting p) w = ap (λ (t : Bool). ending_by p (cond t (Some m) None)) w

push-length : (done : List DataBatch) (y : DataBatch) → length done + 1 ≡ length (done ++ y ∷ [])
push-length done y = sym (length-append done (y ∷ []))

abbrev SetsFrom : ℤ → EndMark → List DataBatch → List DataBatch → Type 0
SetsFrom id m xs done = set_endings (ended m) (waiting_from (length done) id xs) (done ++ xs) ≡ done ++ map (settled (only id (Some m))) xs

next_item : (id : ℤ) (m : EndMark) (xs done : List DataBatch) (y : DataBatch) → SetsFrom id m xs (done ++ y ∷ []) → set_endings (ended m) (waiting_from (length done + 1) id xs) (done ++ y ∷ xs) ≡ done ++ y ∷ map (settled (only id (Some m))) xs
next_item id m xs done y ih =
    let e : done ++ y ∷ xs ≡ (done ++ y ∷ []) ++ xs = simp append_assoc in
    let f : (done ++ y ∷ []) ++ map (settled (only id (Some m))) xs ≡ done ++ y ∷ map (settled (only id (Some m))) xs = simp append_assoc in
    ap (λ (is : List DataBatch). set_endings (ended m) (waiting_from (length done + 1) id xs) is) e
    ∙ (ap (λ n. set_endings (ended m) (waiting_from n id xs) ((done ++ y ∷ []) ++ xs)) (push-length done y) ∙ (ih ∙ f))

set_endings-from : (id : ℤ) (m : EndMark) (xs done : List DataBatch) → SetsFrom id m xs done
set_endings-from id m [] done = refl
set_endings-from id m (x ∷ xs) done = by_test (λ y. next_item id m xs done y (set_endings-from id m xs (done ++ y ∷ []))) (waits id x.ending) refl
  where
    by_test : ((y : DataBatch) → set_endings (ended m) (waiting_from (length done + 1) id xs) (done ++ y ∷ xs) ≡ done ++ y ∷ map (settled (only id (Some m))) xs) → (t : Bool) → waits id x.ending ≡ t
        → set_endings (ended m) (cond (waits id x.ending) (length done ∷ []) [] ++ waiting_from (length done + 1) id xs) (done ++ x ∷ xs) ≡ done ++ settled (only id (Some m)) x ∷ map (settled (only id (Some m))) xs
    by_test next true w =
        let e : with_ending (ended m) x ≡ settled (only id (Some m)) x = ap (λ (f : Ending). with_ending f x) (sym (settled_waits id m x.ending w)) in
        rw w (ap (λ (is : List DataBatch). set_endings (ended m) (waiting_from (length done + 1) id xs) is) (set_ending_here (ended m) done x xs)
        ∙ (next (with_ending (ended m) x) ∙ ap (λ (y : DataBatch). done ++ y ∷ map (settled (only id (Some m))) xs) e))
    by_test next false w =
        let e : x ≡ settled (only id (Some m)) x = ap (λ (f : Ending). with_ending f x) (sym (settled_other id m x.ending w)) in
        rw w (next x ∙ ap (λ (y : DataBatch). done ++ y ∷ map (settled (only id (Some m))) xs) e)

-- the items that wait for an id get the fate of its marker
pub set_endings-settled : (id : ℤ) (m : EndMark) (xs : List DataBatch) → set_endings (ended m) (waiting_in id xs) xs ≡ map (settled (only id (Some m))) xs
set_endings-settled id m xs = set_endings-from id m xs []

-- no marker settles nothing
pub settled_none : (id : ℤ) (xs : List DataBatch) → map (settled (only id None)) xs ≡ xs
settled_none id [] = refl
settled_none id (x ∷ xs) = rw (one x.ending, settled_none id xs) refl
  where
    by_test : (t : Bool) (p : ℤ) → ending_by p (cond t None None) ≡ Waiting p
    by_test true p = refl
    by_test false p = refl

    one : (f : Ending) → resolved (only id None) f ≡ f
    one Plain = refl
    one (Ended e k) = refl
    one (Waiting p) = by_test (int_eq id p) p
