-- What no batch begins with, whatever follows: a fault that isn't want of bytes stays.
use Rattle.std.proofs.Common.{◌≡◌, ◌≢◌, ℕ, ◌≤◌, ℤ, Bool, true, false, not, ltb, List, [], ◌++◌, length, take, drop, Option, Some, None, Result, Ok, Err, refl, sym, ap, ◌∙◌, append_assoc, arith}
use Rattle.std.specs.Int.{w32, w64, cast_signed, from_be_bytes}
use Rattle.std.proofs.lemmas.Bool.{le-ltb, ltb-false}
use Rattle.std.proofs.lemmas.List.{take_at, drop_at, take-append-drop, length-append, length-take-le}
use Rattle.eos_base.specs.Fallible.{◌>>=◌, or_fault, must}
use Rattle.eos_wire.specs.Numbers.{number_at, i64_at, i32_at}
use Rattle.eos_batch.specs.declared.fault.BatchFault.{BatchFault}
use Rattle.eos_batch.specs.declared.fault.BatchFault.TheVariants as faults
use Rattle.eos_batch.specs.Reading.{length_from, frame_at, batch_at}

pub take_more : (xs ys : List ℕ) (n : ℕ) → n ≤ length xs → take n (xs ++ ys) ≡ take n xs
take_more xs ys n le =
    ap (λ (zs : List ℕ). take n (zs ++ ys)) (sym (take-append-drop n xs)) ∙ (ap (take n) (append_assoc (take n xs) (drop n xs) ys) ∙ take_at (take n xs) (drop n xs ++ ys) n (length-take-le n xs le))

drop_more : (xs ys : List ℕ) (n : ℕ) → n ≤ length xs → drop n (xs ++ ys) ≡ drop n xs ++ ys
drop_more xs ys n le =
    ap (λ (zs : List ℕ). drop n (zs ++ ys)) (sym (take-append-drop n xs)) ∙ (ap (drop n) (append_assoc (take n xs) (drop n xs) ys) ∙ drop_at (take n xs) (drop n xs ++ ys) n (length-take-le n xs le))

number_more : {X : Type 0} (n : ℕ) (value : List ℕ → X) (xs ys : List ℕ) (x : X × List ℕ) (t : Bool) → ltb (length xs) n ≡ t → number_at n value xs ≡ Some x → number_at n value (xs ++ ys) ≡ Some (x.0, x.1 ++ ys)
number_more n value xs ys x true q e = let f : None ≡ Some x = rw (← e, q) refl in absurd cc
number_more {X} n value xs ys x false q e =
    let le : n ≤ length xs = ltb-false (length xs) n q in
    let here : Some (value (take n xs), drop n xs) ≡ Some x = sym (rw q refl) ∙ e in
    let is : (value (take n xs), drop n xs) ≡ x = cc in
    rw (le-ltb (length (xs ++ ys)) n (omega (arith, length-append xs ys, le)), take_more xs ys n le, drop_more xs ys n le, ← is) refl

i64_more : (xs ys : List ℕ) (x : ℤ × List ℕ) → i64_at xs ≡ Some x → i64_at (xs ++ ys) ≡ Some (x.0, x.1 ++ ys)
unfolding i64_at
i64_more xs ys x e = number_more 8 (λ text. cast_signed w64 (from_be_bytes w64 text)) xs ys x (ltb (length xs) 8) refl e

i32_more : (xs ys : List ℕ) (x : ℤ × List ℕ) → i32_at xs ≡ Some x → i32_at (xs ++ ys) ≡ Some (x.0, x.1 ++ ys)
unfolding i32_at
i32_more xs ys x e = number_more 4 (λ text. cast_signed w32 (from_be_bytes w32 text)) xs ys x (ltb (length xs) 4) refl e

abbrev of_length : ℤ → List ℕ → Result ℕ BatchFault → Result (ℤ × List ℕ) BatchFault
of_length base rest (Ok n) = must (not (ltb (length rest) n)) faults.Truncated (base, take n rest)
of_length base rest (Err e) = Err e

abbrev of_base : ℤ → Option (ℤ × List ℕ) → Result (ℤ × List ℕ) BatchFault
of_base base None = Err faults.Truncated
of_base base (Some l) = of_length base l.1 (length_from l.0)

abbrev of_bytes : Option (ℤ × List ℕ) → Result (ℤ × List ℕ) BatchFault
of_bytes None = Err faults.Truncated
of_bytes (Some b) = of_base b.0 (i32_at b.1)

frame_length : (base : ℤ) (rest : List ℕ) (r : Result ℕ BatchFault) → (r >>= λ n. must (not (ltb (length rest) n)) faults.Truncated (base, take n rest)) ≡ of_length base rest r
frame_length base rest (Ok n) = refl
frame_length base rest (Err e) = refl

frame_base : (base : ℤ) (o : Option (ℤ × List ℕ)) → (or_fault faults.Truncated o >>= λ len. length_from len.0 >>= λ n. must (not (ltb (length len.1) n)) faults.Truncated (base, take n len.1)) ≡ of_base base o
frame_base base None = refl
frame_base base (Some l) = frame_length base l.1 (length_from l.0)

frame_bytes : (o : Option (ℤ × List ℕ))
    → (or_fault faults.Truncated o >>= λ b. or_fault faults.Truncated (i32_at b.1) >>= λ len. length_from len.0 >>= λ n. must (not (ltb (length len.1) n)) faults.Truncated (b.0, take n len.1)) ≡ of_bytes o
frame_bytes None = refl
frame_bytes (Some b) = frame_base b.0 (i32_at b.1)

frame_is : (bytes : List ℕ) → frame_at bytes ≡ of_bytes (i64_at bytes)
unfolding frame_at
frame_is bytes = frame_bytes (i64_at bytes)

more_must : (base : ℤ) (rest ys : List ℕ) (n : ℕ) (t : Bool) → ltb (length rest) n ≡ t → of_length base rest (Ok n) ≢ Err faults.Truncated → of_length base (rest ++ ys) (Ok n) ≡ of_length base rest (Ok n)
more_must base rest ys n true q h = absurd (h (rw q refl))
more_must base rest ys n false q h =
    let le : n ≤ length rest = ltb-false (length rest) n q in
    rw (q, le-ltb (length (rest ++ ys)) n (omega (arith, length-append rest ys, le)), take_more rest ys n le) refl

more_length : (base : ℤ) (rest ys : List ℕ) (r : Result ℕ BatchFault) → of_length base rest r ≢ Err faults.Truncated → of_length base (rest ++ ys) r ≡ of_length base rest r
more_length base rest ys (Err e) h = refl
more_length base rest ys (Ok n) h = more_must base rest ys n (ltb (length rest) n) refl h

more_base : (base : ℤ) (rest ys : List ℕ) (o : Option (ℤ × List ℕ)) → i32_at rest ≡ o → of_base base o ≢ Err faults.Truncated → of_base base (i32_at (rest ++ ys)) ≡ of_base base o
more_base base rest ys None e h = absurd (h refl)
more_base base rest ys (Some l) e h = rw (i32_more rest ys l e) (more_length base l.1 ys (length_from l.0) h)

more_bytes : (xs ys : List ℕ) (o : Option (ℤ × List ℕ)) → i64_at xs ≡ o → of_bytes o ≢ Err faults.Truncated → of_bytes (i64_at (xs ++ ys)) ≡ of_bytes o
more_bytes xs ys None e h = absurd (h refl)
more_bytes xs ys (Some b) e h = rw (i64_more xs ys b e) (more_base b.0 b.1 ys (i32_at b.1) refl h)

pub frame_more : (xs ys : List ℕ) → frame_at xs ≢ Err faults.Truncated → frame_at (xs ++ ys) ≡ frame_at xs
frame_more xs ys h =
    frame_is (xs ++ ys) ∙ (more_bytes xs ys (i64_at xs) refl (λ (q : of_bytes (i64_at xs) ≡ Err faults.Truncated). h (frame_is xs ∙ q)) ∙ sym (frame_is xs))

truncates : (xs : List ℕ) → frame_at xs ≡ Err faults.Truncated → batch_at xs ≡ Err faults.Truncated
unfolding batch_at
truncates xs e = rw e refl

same_frame : (xs ys : List ℕ) → frame_at ys ≡ frame_at xs → batch_at ys ≡ batch_at xs
unfolding batch_at
same_frame xs ys e = rw e refl

-- whatever follows, unless bytes are wanting
pub batch_more : (xs ys : List ℕ) → batch_at xs ≢ Err faults.Truncated → batch_at (xs ++ ys) ≡ batch_at xs
batch_more xs ys h = same_frame xs (xs ++ ys) (frame_more xs ys (λ (q : frame_at xs ≡ Err faults.Truncated). h (truncates xs q)))

empty : of_bytes (i64_at []) ≡ Err faults.Truncated
unfolding i64_at
empty = refl

pub batch_none : batch_at [] ≡ Err faults.Truncated
batch_none = truncates [] (frame_is [] ∙ empty)
