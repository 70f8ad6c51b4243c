-- The batches of a file, one by one.
use Rattle.std.proofs.Common.{◌≡◌, ℕ, zero, suc, ◌+◌, ◌-◌, ℤ, List, [], ◌∷◌, ◌++◌, ◌<◌, ◌≤◌, length, get_or, take, drop, drop-drop, slice_range, Ok, Err, arith, refl, sym, ap, ◌∙◌, append_assoc, append-nil}
use Rattle.std.proofs.lemmas.List.{drop_all, drop_more, length-drop, take_all}
use Rattle.eos_batch.specs.declared.batch.Batch.{Batch}
use Rattle.eos_batch.specs.declared.fault.BatchFault.{BatchFault}
use Rattle.eos_batch.specs.Reading.{batch_at}
use Rattle.eos_simulate.specs.declared.cleaning.Logged.{Logged}
use Rattle.eos_simulate.specs.Cleaning.{logged_from, logged_in, left_here, left_in}

abbrev pub logged : ℤ → Batch → List ℕ → Logged
logged base b text = record { base = base; batch = b; text = text }

first_stands : (base : ℤ) (n m size : ℕ) (bytes : List ℕ) (b : Batch) → n ≡ suc m → batch_at bytes ≡ Ok (b, size) → logged_in n base bytes ≡ logged base b (take size bytes) ∷ logged_in m base (drop size bytes)
first_stands base n m size bytes b more e = ap (λ (k : ℕ). logged_in k base bytes) more ∙ ap (logged_from base bytes (logged_in m base)) e

none_stands : (base : ℤ) (n : ℕ) (bytes : List ℕ) (fault : BatchFault) → batch_at bytes ≡ Err fault → logged_in n base bytes ≡ []
none_stands base zero bytes fault e = refl
none_stands base (suc n) bytes fault e = ap (logged_from base bytes (logged_in n base)) e

-- the log so far, and what the rest of the file has for it, come to all of it
abbrev pub GoesOnBy : ℤ → ℕ → List ℕ → List Logged → List Logged → Type 0
GoesOnBy base n rest log all = log ++ logged_in n base rest ≡ all

pub one_logged : (base : ℤ) (n m at size : ℕ) (bytes text : List ℕ) (b : Batch) (log next all : List Logged) → n ≡ suc m → batch_at (drop at bytes) ≡ Ok (b, size) → text ≡ slice_range bytes at (at + size)
    → next ≡ log ++ logged base b text ∷ [] → GoesOnBy base n (drop at bytes) log all → GoesOnBy base m (drop (at + size) bytes) next all
one_logged base n m at size bytes text b log next all more e t p h =
    let front = first_stands base n m size (drop at bytes) b more e ∙ ap (λ (r : List ℕ). logged base b (take size (drop at bytes)) ∷ logged_in m base r) (drop-drop size at bytes) in
    let width : at + size - at ≡ size = omega arith in
    let is : text ≡ take size (drop at bytes) = t ∙ ap (λ (k : ℕ). take k (drop at bytes)) width in
    let pushed = p ∙ ap (λ (x : List ℕ). log ++ logged base b x ∷ []) is in
    ap (λ (xs : List Logged). xs ++ logged_in m base (drop (at + size) bytes)) pushed
    ∙ (append_assoc log (logged base b (take size (drop at bytes)) ∷ []) (logged_in m base (drop (at + size) bytes)) ∙ (sym (ap (λ (xs : List Logged). log ++ xs) front) ∙ h))

pub all_logged : (base : ℤ) (n : ℕ) (rest : List ℕ) (fault : BatchFault) (log all : List Logged) → batch_at rest ≡ Err fault → GoesOnBy base n rest log all → log ≡ all
all_logged base n rest fault log all e h = sym (append-nil log) ∙ (sym (ap (λ (xs : List Logged). log ++ xs) (none_stands base n rest fault e)) ∙ h)

-- what is left of one batch more
pub left_more : (base : ℤ) (log : List Logged) (i : ℕ) (l : Logged) (out new : List ℕ) → i < length log → l ≡ get_or log i l → new ≡ out ++ left_here base l (take (length log - (i + 1)) (drop (i + 1) log))
    → out ++ left_in base (drop i log) ≡ left_in base log → new ++ left_in base (drop (i + 1) log) ≡ left_in base log
left_more base log i l out new lt is more h =
    let rest = left_in base (drop (i + 1) log) in
    let whole : drop i log ≡ l ∷ drop (i + 1) log = drop_more log i l lt ∙ ap (λ (x : Logged). x ∷ drop (i + 1) log) (sym is) in
    let count = length-drop (i + 1) log in
    let later : take (length log - (i + 1)) (drop (i + 1) log) ≡ drop (i + 1) log = take_all (length log - (i + 1)) (drop (i + 1) log) (omega (arith, count)) in
    ap (λ (x : List ℕ). x ++ rest) (more ∙ ap (λ (x : List Logged). out ++ left_here base l x) later)
    ∙ (append_assoc out (left_here base l (drop (i + 1) log)) rest ∙ (ap (λ (x : List Logged). out ++ left_in base x) (sym whole) ∙ h))

-- and of all of them
pub left_all : (base : ℤ) (log : List Logged) (i : ℕ) (out : List ℕ) → length log ≤ i → out ++ left_in base (drop i log) ≡ left_in base log → out ≡ left_in base log
left_all base log i out end h = sym (append-nil out) ∙ (ap (λ (x : List Logged). out ++ left_in base x) (sym (drop_all i log end)) ∙ h)
