-- Reading so many things one after the other, as a loop does.
use Rattle.std.proofs.Common.{◌≡◌, ℕ, suc, ◌+◌, ◌-◌, ◌≤◌, ◌<◌, List, [], ◌∷◌, ◌++◌, Result, Ok, Err, refl, sym, ap, ◌∙◌, append_assoc, arith}
use Rattle.std.proofs.lemmas.List.{append-nil}
use Rattle.eos_base.specs.declared.record_fault.RecordFault.{RecordFault}
use Rattle.eos_base.specs.declared.record_fault.RecordFault.TheVariants as faults
use Rattle.eos_base.specs.Fallible.{◌>>=◌}
use Rattle.eos_base.specs.Records.{Refuses, skipped}
use Rattle.eos_base.specs.steps.Records.{Fails}
use Rattle.eos_wire.specs.Reading.{many_from}
use Rattle.eos_wire.proofs.Takes.{done}

-- what fails is passed on
pub fails_through : {A B : Type 0} (e : RecordFault) (r : Result A RecordFault) (s : Result B RecordFault) → ((f : RecordFault) → r ≡ Err f → s ≡ Err f) → Fails e r → Fails e s
fails_through faults.OutOfMemory r s k h = tt
fails_through faults.Short r s k h = k faults.Short h
fails_through faults.Version r s k h = k faults.Version h
fails_through faults.Status r s k h = k faults.Status h
fails_through faults.Length r s k h = k faults.Length h
fails_through faults.Trailing r s k h = k faults.Trailing h

-- and so is what is refused
pub refuses_through : {A B : Type 0} (e : RecordFault) (r : Result A RecordFault) (s : Result B RecordFault) → ((f : RecordFault) → r ≡ Err f → s ≡ Err f) → Refuses e r → Refuses e s
refuses_through faults.OutOfMemory r s k h = absurd h
refuses_through faults.Short r s k h = k faults.Short h
refuses_through faults.Version r s k h = k faults.Version h
refuses_through faults.Status r s k h = k faults.Status h
refuses_through faults.Length r s k h = k faults.Length h
refuses_through faults.Trailing r s k h = k faults.Trailing h

pub fails_as_refused : {A : Type 0} (e : RecordFault) (r : Result A RecordFault) → Refuses e r → Fails e r
fails_as_refused faults.OutOfMemory r h = tt
fails_as_refused faults.Short r h = h
fails_as_refused faults.Version r h = h
fails_as_refused faults.Status r h = h
fails_as_refused faults.Length r h = h
fails_as_refused faults.Trailing r h = h

-- what is made of the things that were read before, and of those that are still read
abbrev pub with_front : {X Y : Type 0} → (List X → Y) → List X → Result (List X × List ℕ) RecordFault → Result (Y × List ℕ) RecordFault
with_front make front read = read >>= λ x. Ok (make (front ++ x.0), x.1)

regroup : {X Y : Type 0} (make : List X → Y) (front : List X) (x : X) (read : Result (List X × List ℕ) RecordFault)
    → with_front make front (read >>= λ others. Ok (x ∷ others.0, others.1)) ≡ with_front make (front ++ x ∷ []) read
regroup {X} make front x (Ok others) = ap (λ (xs : List X). Ok (make xs, others.1)) (simp append_assoc)
regroup make front x (Err e) = refl

pub goes_on : {X Y : Type 0} (make : List X → Y) (read : List ℕ → Result (X × List ℕ) RecordFault) (front : List X) (count i : ℕ) (bytes : List ℕ) (x : X) (after : List ℕ) (total : Result (Y × List ℕ) RecordFault)
    → i < count → read bytes ≡ Ok (x, after) → with_front make front (many_from read (count - i) bytes) ≡ total → with_front make (front ++ x ∷ []) (many_from read (count - (i + 1)) after) ≡ total
unfolding many_from
goes_on make read front count i bytes x after total lt one so_far =
    let left : count - i ≡ suc (count - (i + 1)) = omega arith in
    let same : with_front make front (many_from read (count - i) bytes) ≡ with_front make (front ++ x ∷ []) (many_from read (count - (i + 1)) after) = rw (left, one) (regroup make front x (many_from read (count - (i + 1)) after)) in
    sym same ∙ so_far

pub ends : {X Y : Type 0} (make : List X → Y) (read : List ℕ → Result (X × List ℕ) RecordFault) (e : RecordFault) (front : List X) (count i : ℕ) (bytes : List ℕ) (total : Result (Y × List ℕ) RecordFault)
    → i < count → Fails e (read bytes) → with_front make front (many_from read (count - i) bytes) ≡ total → Fails e total
unfolding many_from
ends make read e front count i bytes total lt one so_far =
    let left : count - i ≡ suc (count - (i + 1)) = omega arith in
    fails_through e (read bytes) total (λ f q. let same : with_front make front (many_from read (count - i) bytes) ≡ Err f = rw (left, q) refl in sym so_far ∙ same) one

pub is_done : {X Y : Type 0} (make : List X → Y) (read : List ℕ → Result (X × List ℕ) RecordFault) (front : List X) (count i : ℕ) (bytes : List ℕ) (total : Result (Y × List ℕ) RecordFault)
    → count ≤ i → with_front make front (many_from read (count - i) bytes) ≡ total → total ≡ Ok (make front, bytes)
unfolding many_from
is_done {X} make read front count i bytes total le so_far =
    let left : count - i ≡ 0 = omega arith in
    let same : with_front make front (many_from read (count - i) bytes) ≡ Ok (make front, bytes) = rw left (ap (λ (xs : List X). Ok (make xs, bytes)) (append-nil front)) in
    sym so_far ∙ same

-- ---- the same where nothing is kept

rest_is : (x y : Unit {0} × List ℕ) → done x ≡ done y → x.1 ≡ y.1
rest_is x y e = let same : x ≡ y = cc in ap (λ (z : Unit {0} × List ℕ). z.1) same

pub skips_on : {X : Type 0} (read : List ℕ → Result (X × List ℕ) RecordFault) (count i : ℕ) (bytes after : List ℕ) (total : Result (Unit {0} × List ℕ) RecordFault)
    → i < count → skipped (read bytes) ≡ Ok (tt, after) → skipped (many_from read (count - i) bytes) ≡ total → skipped (many_from read (count - (i + 1)) after) ≡ total
skips_on {X} read count i bytes after total lt one so_far = at (read bytes) refl one
  where
    at : (r : Result (X × List ℕ) RecordFault) → read bytes ≡ r → skipped r ≡ Ok (tt, after) → skipped (many_from read (count - (i + 1)) after) ≡ total
    at (Ok x) is e = goes_on (λ _. tt) read [] count i bytes x.0 after total lt (is ∙ ap (λ (r : List ℕ). Ok (x.0, r)) (rest_is (tt, x.1) (tt, after) e)) so_far
    at (Err f) is e = absurd cc

pub skips_end : {X : Type 0} (read : List ℕ → Result (X × List ℕ) RecordFault) (e : RecordFault) (count i : ℕ) (bytes : List ℕ) (total : Result (Unit {0} × List ℕ) RecordFault)
    → i < count → Refuses e (skipped (read bytes)) → skipped (many_from read (count - i) bytes) ≡ total → Refuses e total
unfolding many_from
skips_end {X} read e count i bytes total lt one so_far =
    let left : count - i ≡ suc (count - (i + 1)) = omega arith in
    refuses_through e (skipped (read bytes)) total (λ f q. let same : skipped (many_from read (count - i) bytes) ≡ Err f = rw (left, at f (read bytes) q) refl in sym so_far ∙ same) one
  where
    at : (f : RecordFault) (r : Result (X × List ℕ) RecordFault) → skipped r ≡ Err f → r ≡ Err f
    at f (Ok x) q = absurd cc
    at f (Err d) q = cc
