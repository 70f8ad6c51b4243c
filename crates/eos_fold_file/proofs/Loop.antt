-- Reading and writing so many things one after the other, as a loop does.
use Rattle.std.proofs.Common.{◌≡◌, ℕ, suc, ◌+◌, ◌-◌, ◌≤◌, ◌<◌, List, [], ◌∷◌, ◌++◌, length, take, get_or, Result, Ok, Err, refl, sym, ap, ◌∙◌, append_assoc, arith, subst, below_more}
use Rattle.std.specs.Prelude.{flat_map}
use Rattle.std.proofs.lemmas.List.{append-nil, take_more, get_or_default}
use Rattle.std.proofs.lemmas.Grind.{flat_map-append}
use Rattle.eos_base.specs.Fallible.{◌>>=◌}
use Rattle.eos_fold_file.specs.declared.fault.FoldFault.{FoldFault}
use Rattle.eos_fold_file.specs.declared.fault.FoldFault.TheVariants as faults
use Rattle.eos_fold_file.specs.Faults.{Fails}
use Rattle.eos_fold_file.specs.Numbers.{many_from}

-- what fails is passed on
pub fails_through : {A B : Type 0} (e : FoldFault) (r : Result A FoldFault) (s : Result B FoldFault) → ((f : FoldFault) → r ≡ Err f → s ≡ Err f) → Fails e r → Fails e s
fails_through faults.OutOfMemory r s k h = tt
fails_through faults.Short r s k h = k faults.Short h
fails_through faults.Magic r s k h = k faults.Magic h
fails_through faults.Version r s k h = k faults.Version h
fails_through faults.Roles r s k h = k faults.Roles h
fails_through faults.Number r s k h = k faults.Number h
fails_through faults.Head r s k h = k faults.Head h
fails_through faults.Epoch r s k h = k faults.Epoch h
fails_through faults.Record r s k h = k faults.Record h
fails_through faults.Stop r s k h = k faults.Stop h
fails_through faults.Crc r s k h = k faults.Crc h
fails_through faults.Trailing r s k h = k faults.Trailing h

-- the things that were read before, and those that are still read
abbrev pub with_front : {X : Type 0} → List X → Result (List X × List ℕ) FoldFault → Result (List X × List ℕ) FoldFault
with_front front read = read >>= λ x. Ok (front ++ x.0, x.1)

pub regroup : {X : Type 0} (front : List X) (x : X) (read : Result (List X × List ℕ) FoldFault)
    → with_front front (read >>= λ others. Ok (x ∷ others.0, others.1)) ≡ with_front (front ++ x ∷ []) read
regroup {X} front x (Ok others) = ap (λ (xs : List X). Ok (xs, others.1)) (simp append_assoc)
regroup front x (Err e) = refl

pub goes_on : {X : Type 0} (read : List ℕ → Result (X × List ℕ) FoldFault) (front : List X) (count i : ℕ) (bytes : List ℕ) (x : X) (after : List ℕ) (total : Result (List X × List ℕ) FoldFault)
    → i < count → read bytes ≡ Ok (x, after) → with_front front (many_from read (count - i) bytes) ≡ total → with_front (front ++ x ∷ []) (many_from read (count - (i + 1)) after) ≡ total
unfolding many_from
goes_on read front count i bytes x after total lt one so_far =
    let left : count - i ≡ suc (count - (i + 1)) = omega arith in
    let same : with_front front (many_from read (count - i) bytes) ≡ with_front (front ++ x ∷ []) (many_from read (count - (i + 1)) after) = rw (left, one) (regroup front x (many_from read (count - (i + 1)) after)) in
    sym same ∙ so_far

pub ends : {X : Type 0} (read : List ℕ → Result (X × List ℕ) FoldFault) (e : FoldFault) (front : List X) (count i : ℕ) (bytes : List ℕ) (total : Result (List X × List ℕ) FoldFault)
    → i < count → Fails e (read bytes) → with_front front (many_from read (count - i) bytes) ≡ total → Fails e total
unfolding many_from
ends read e front count i bytes total lt one so_far =
    let left : count - i ≡ suc (count - (i + 1)) = omega arith in
    fails_through e (read bytes) total (λ f q. let same : with_front front (many_from read (count - i) bytes) ≡ Err f = rw (left, q) refl in sym so_far ∙ same) one

pub is_done : {X : Type 0} (read : List ℕ → Result (X × List ℕ) FoldFault) (front : List X) (count i : ℕ) (bytes : List ℕ) (total : Result (List X × List ℕ) FoldFault)
    → count ≤ i → with_front front (many_from read (count - i) bytes) ≡ total → total ≡ Ok (front, bytes)
unfolding many_from
is_done {X} read front count i bytes total le so_far =
    let left : count - i ≡ 0 = omega arith in
    let same : with_front front (many_from read (count - i) bytes) ≡ Ok (front, bytes) = rw left (ap (λ (xs : List X). Ok (xs, bytes)) (append-nil front)) in
    sym so_far ∙ same

-- after one more piece
pub piece_more : {X : Type 0} (f : X → List ℕ) (before so_far next : List ℕ) (xs : List X) (i : ℕ) (d : X) → i < length xs
    → so_far ≡ before ++ flat_map f (take i xs) → next ≡ so_far ++ f (get_or xs i d) → next ≡ before ++ flat_map f (take (i + 1) xs)
piece_more f before so_far next xs i d lt e q =
    let piece : flat_map f (get_or xs i d ∷ []) ≡ f (get_or xs i d) = append-nil (f (get_or xs i d)) in
    let pieces : flat_map f (take (i + 1) xs) ≡ flat_map f (take i xs) ++ f (get_or xs i d) = rw (take_more xs i d lt, flat_map-append f (take i xs) (get_or xs i d ∷ [])) (ap (λ (ys : List ℕ). flat_map f (take i xs) ++ ys) piece) in
    q ∙ (ap (λ (ys : List ℕ). ys ++ f (get_or xs i d)) e ∙ (append_assoc before (flat_map f (take i xs)) (f (get_or xs i d)) ∙ ap (λ (ys : List ℕ). before ++ ys) (sym pieces)))

pub three_pieces : (before a b c out1 out2 out3 : List ℕ) → out1 ≡ before ++ a → out2 ≡ out1 ++ b → out3 ≡ out2 ++ c → out3 ≡ before ++ (a ++ (b ++ c))
three_pieces before a b c out1 out2 out3 e1 e2 e3 = rw (e3, e2, e1) (simp append_assoc)

pub five_pieces : (before a b c d e out1 out2 out3 out4 out5 : List ℕ) → out1 ≡ before ++ a → out2 ≡ out1 ++ b → out3 ≡ out2 ++ c → out4 ≡ out3 ++ d → out5 ≡ out4 ++ e
    → out5 ≡ before ++ (a ++ (b ++ (c ++ (d ++ e))))
five_pieces before a b c d e out1 out2 out3 out4 out5 e1 e2 e3 e4 e5 = rw (e5, e4, e3, e2, e1) (simp append_assoc)

-- what holds of each item before i, and of that at i, holds of each before i + 1
pub each_more : {X : Type 0} (P : X → Type 0) (xs : List X) (i : ℕ) (e : X) → i < length xs
    → ((k : ℕ) (d : X) → k < i → P (get_or xs k d)) → P (get_or xs i e) → (k : ℕ) (d : X) → k < i + 1 → P (get_or xs k d)
each_more {X} P xs i e lt all here k d =
    below_more (λ (j : ℕ). P (get_or xs j d)) i (λ j. all j d) (subst P (get_or_default xs i e d lt) here) k
